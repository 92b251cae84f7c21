-- Books of three records, of which one, two or all disagree, at the first, the last and adjacent places: accept names the first of them.
-- Assumes nothing.
use Rattle.std.specs.Prelude.{List, [], ◌∷◌, ◌++◌, ◌≡◌, ℕ}
use Rattle.std.proofs.Common.{ap, ap₂, subst}
use Rattle.bools.specs.Earliest.{earliest}
use Rattle.rating.proofs.Laws.Answers.{cable}
use Rattle.rating.proofs.Laws.Instances.{answer}
use Rattle.book_laws.specs.Bytes.{number_bytes, number_at, words_bytes, words_at, stands}
use Rattle.book_laws.specs.Layout.{rbk2}
use Rattle.book_laws.specs.Format.{trailer_bytes}
use Rattle.book_laws.specs.Trailer.{wrong_trailer, describe_at, describe_in, on_book_in}
use Rattle.book_laws.specs.Record.{agrees, all_agree, first_disagreeing}
use Rattle.book_laws.specs.Accept.{Acceptance, unaccepted, accept_after, accept_in}
use Rattle.book_laws.specs.Book.{layout_of, accept_of, DisagreesFirst}
use Rattle.book_laws.proofs.Laws.Demands.{first_named}
use Rattle.book_laws.proofs.Laws.Judged.{as_rated, judged}

-- without a note, the record of the cable with these ratings; its own is 457106
abbrev pub book : (r₁ r₂ r₃ : ℕ) → List ℕ
book r₁ r₂ r₃ =
    words_bytes (cable ++ (0 ∷ r₁ ∷ []) ++ cable ++ (0 ∷ r₂ ∷ []) ++ cable ++ (0 ∷ r₃ ∷ [])) ++ trailer_bytes rbk2 3

-- what accept answers to it where the cable's answer is n and its rating i
abbrev accepted_as : (r₁ r₂ r₃ n i : ℕ) → Acceptance
accepted_as r₁ r₂ r₃ n i = judged 0 (as_rated 0 r₁ n i ∷ as_rated 0 r₂ n i ∷ as_rated 0 r₃ n i ∷ [])

pub record Named : Type 0 where
  pub none : accept_of (book 457106 457106 457106) 400 ≡ record { number = 0; count = 3; note = 0; named = 0 }
  pub last : accept_of (book 457106 457106 457107) 400 ≡ record { number = 23; count = 0; note = 0; named = 3 }
  pub first_and_last : accept_of (book 457105 457106 457107) 400 ≡ record { number = 23; count = 0; note = 0; named = 1 }
  pub first_two : accept_of (book 457105 457107 457106) 400 ≡ record { number = 23; count = 0; note = 0; named = 1 }
  pub last_two : accept_of (book 457106 457105 457107) 400 ≡ record { number = 23; count = 0; note = 0; named = 2 }
  pub all : accept_of (book 0 0 0) 400 ≡ record { number = 23; count = 0; note = 0; named = 1 }

pub named : Named
unfolding accept_in accept_after unaccepted on_book_in describe_in describe_at wrong_trailer agrees all_agree first_disagreeing earliest
    trailer_bytes stands layout_of number_at number_bytes words_at words_bytes
named =
    record {
      none = ap₂ (accepted_as 457106 457106 457106) answer.0 answer.1;
      last = ap₂ (accepted_as 457106 457106 457107) answer.0 answer.1;
      first_and_last = ap₂ (accepted_as 457105 457106 457107) answer.0 answer.1;
      first_two = ap₂ (accepted_as 457105 457107 457106) answer.0 answer.1;
      last_two = ap₂ (accepted_as 457106 457105 457107) answer.0 answer.1;
      all = ap₂ (accepted_as 0 0 0) answer.0 answer.1;
    }

-- the law about the record that 23 names, of one of them
second_first : DisagreesFirst (book 457106 457105 457107) 400 2
second_first =
    subst (DisagreesFirst (book 457106 457105 457107) 400) (ap (λ a. a.named) named.last_two)
    (first_named (book 457106 457105 457107) 400 (ap (λ a. a.number) named.last_two))
