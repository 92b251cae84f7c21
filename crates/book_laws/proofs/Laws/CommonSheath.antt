-- A book with the record of a three-core cable under one sheath, arrangement 6, which rates 469.955 A: it is accepted, and demand 3
-- holds of its record. The same case in a book of RBK1, with the answer 1 that it had before refusal 1 let arrangement 6 pass, disagrees:
-- the rule of RBK1 rates arrangement 6 too. Assumes nothing.
use Rattle.std.specs.Prelude.{List, [], ◌∷◌, ◌++◌, ◌≡◌, refl, ℕ}
use Rattle.std.proofs.Common.{ap, ap₂}
use Rattle.bools.specs.Earliest.{earliest}
use Rattle.exact.specs.Fraction.{whole, ◌≤F◌, ◌<F◌}
use Rattle.rating.specs.Values.{permitted_of}
use Rattle.rating.specs.Exact.{exact_rise}
use Rattle.rating.proofs.Laws.Answers.{three_cores}
use Rattle.rating.proofs.Laws.Instances.{answer_6, chosen_6, allowed_6}
use Rattle.book_laws.specs.Bytes.{number_bytes, number_at, words_bytes, words_at, stands}
use Rattle.book_laws.specs.Layout.{rbk1, rbk2}
use Rattle.book_laws.specs.Format.{all_fields, trailer_bytes}
use Rattle.book_laws.specs.Trailer.{wrong_trailer, describe_at, describe_in, on_book_in}
use Rattle.book_laws.specs.Record.{agrees, all_agree, first_disagreeing}
use Rattle.book_laws.specs.Read.{read_after, read_in}
use Rattle.book_laws.specs.Accept.{Acceptance, unaccepted, accept_after, accept_in}
use Rattle.book_laws.specs.Book.{layout_of, read_of, accept_of, Accepted}
use Rattle.book_laws.proofs.Laws.Demands.{accepted}
use Rattle.book_laws.proofs.Laws.Judged.{one_record, as_rated, judged}
use Rattle.book_laws.proofs.Laws.Margin.{safe, close}

abbrev book : List ℕ
book = one_record rbk2 three_cores 0 469955

-- what accept answers to it where the cable's answer is n and its rating i
abbrev accepted_as : (number rating n i : ℕ) → Acceptance
accepted_as number rating n i = judged 0 (as_rated number rating n i ∷ [])

pub record CommonSheathBook : Type 0 where
  pub reads : read_of book 144 0 ≡ record { number = 0; fields = three_cores ++ (0 ∷ 469955 ∷ []) }
  pub accepts : accept_of book 144 ≡ record { number = 0; count = 1; note = 0; named = 0 }
  -- the refusal was lifted since the record was written
  pub lifted : accept_of (one_record rbk1 three_cores 1 0) 128 ≡ record { number = 23; count = 0; note = 0; named = 1 }

pub common_sheath_book : CommonSheathBook
unfolding read_in read_after accept_in accept_after unaccepted on_book_in describe_in describe_at wrong_trailer agrees all_agree
    first_disagreeing earliest all_fields trailer_bytes stands layout_of number_at number_bytes words_at words_bytes
common_sheath_book =
    record {
      reads = refl;
      accepts = ap₂ (accepted_as 0 469955) answer_6.0 answer_6.1;
      lifted = ap₂ (accepted_as 1 0) answer_6.0 answer_6.1;
    }

fine : Accepted book 144
fine = accepted book 144 (ap (λ a. a.number) common_sheath_book.accepts)

under : exact_rise three_cores chosen_6 (whole 469955) ≤F whole (permitted_of three_cores)
under = safe book 144 fine 0 469955 three_cores common_sheath_book.reads chosen_6 allowed_6

over : whole (permitted_of three_cores) <F exact_rise three_cores chosen_6 (whole 469957)
over = close book 144 fine 0 469955 three_cores common_sheath_book.reads chosen_6 allowed_6
