-- A book with the record of a cable for direct current, arrangement 7, which rates 866.734 A: it is accepted, and demand 3 holds of its
-- record. In a book of RBK1 it is accepted with the answer 1 and the rating 0, as it was before refusal 1 let arrangement 7 pass. With any
-- other answer or rating it disagrees. Assumes nothing.
use Rattle.std.specs.Prelude.{List, [], ◌∷◌, ◌++◌, ◌≡◌, refl, ℕ}
use Rattle.std.proofs.Common.{ap, ap₂}
use Rattle.bools.specs.Earliest.{earliest}
use Rattle.exact.specs.Fraction.{whole, ◌≤F◌, ◌<F◌}
use Rattle.rating.specs.Values.{permitted_of}
use Rattle.rating.specs.Exact.{exact_rise}
use Rattle.rating.proofs.Laws.Answers.{feeder}
use Rattle.rating.proofs.Laws.Instances.{answer_feeder, chosen_7, allowed_feeder}
use Rattle.book_laws.specs.Bytes.{number_bytes, number_at, words_bytes, words_at, stands}
use Rattle.book_laws.specs.Layout.{rbk1, rbk2}
use Rattle.book_laws.specs.Format.{all_fields, trailer_bytes}
use Rattle.book_laws.specs.Trailer.{wrong_trailer, describe_at, describe_in, on_book_in}
use Rattle.book_laws.specs.Record.{answer_at, rating_at, agrees, all_agree, first_disagreeing}
use Rattle.book_laws.specs.Read.{read_after, read_in}
use Rattle.book_laws.specs.Accept.{Acceptance, unaccepted, accept_after, accept_in}
use Rattle.book_laws.specs.Book.{layout_of, read_of, accept_of, Accepted}
use Rattle.book_laws.proofs.Laws.Demands.{accepted}
use Rattle.book_laws.proofs.Laws.Judged.{one_record, as_rated, judged, accepted_as}
use Rattle.book_laws.proofs.Laws.Margin.{safe, close}
use Rattle.book_laws.proofs.Laws.Answered.{older_refused}

-- with this answer and this rating, of RBK2 and of RBK1

abbrev book : (number rating : ℕ) → List ℕ
book number rating = one_record rbk2 feeder number rating

abbrev older_book : (number rating : ℕ) → List ℕ
older_book number rating = one_record rbk1 feeder number rating

abbrev first_disagrees : Acceptance
first_disagrees = record { number = 23; count = 0; note = 0; named = 1 }

pub record DirectCurrentBook : Type 0 where
  pub reads : read_of (book 0 866734) 144 0 ≡ record { number = 0; fields = feeder ++ (0 ∷ 866734 ∷ []) }
  pub accepts : accept_of (book 0 866734) 144 ≡ record { number = 0; count = 1; note = 0; named = 0 }
  pub by_1 : accept_of (book 1 0) 144 ≡ first_disagrees
  pub older_reads : read_of (older_book 1 0) 128 0 ≡ record { number = 0; fields = feeder ++ (1 ∷ 0 ∷ []) }
  pub older_accepts : accept_of (older_book 1 0) 128 ≡ record { number = 0; count = 1; note = 0; named = 0 }
  pub older_rated : accept_of (older_book 0 866734) 128 ≡ first_disagrees
  pub older_rated_0 : accept_of (older_book 0 0) 128 ≡ first_disagrees
  pub older_by_2 : accept_of (older_book 2 0) 128 ≡ first_disagrees
  pub older_with_a_rating : accept_of (older_book 1 866734) 128 ≡ first_disagrees

pub direct_current_book : DirectCurrentBook
unfolding read_in read_after accept_in accept_after unaccepted on_book_in describe_in describe_at wrong_trailer agrees all_agree
    first_disagreeing earliest all_fields trailer_bytes stands layout_of number_at number_bytes words_at words_bytes
direct_current_book =
    record {
      reads = refl;
      accepts = ap₂ (accepted_as 866734) answer_feeder.0 answer_feeder.1;
      by_1 = ap₂ (λ (n i : ℕ). judged 0 (as_rated 1 0 n i ∷ [])) answer_feeder.0 answer_feeder.1;
      older_reads = refl;
      older_accepts = refl;
      older_rated = refl;
      older_rated_0 = refl;
      older_by_2 = refl;
      older_with_a_rating = refl;
    }

-- Demand 3 of the record of RBK2.

fine : Accepted (book 0 866734) 144
fine = accepted (book 0 866734) 144 (ap (λ (a : Acceptance). a.number) direct_current_book.accepts)

under : exact_rise feeder chosen_7 (whole 866734) ≤F whole (permitted_of feeder)
under = safe (book 0 866734) 144 fine 0 866734 feeder direct_current_book.reads chosen_7 allowed_feeder

over : whole (permitted_of feeder) <F exact_rise feeder chosen_7 (whole 866736)
over = close (book 0 866734) 144 fine 0 866734 feeder direct_current_book.reads chosen_7 allowed_feeder

-- The law of every such record of an accepted book of RBK1, of this one.

older_fine : Accepted (older_book 1 0) 128
older_fine = accepted (older_book 1 0) 128 (ap (λ (a : Acceptance). a.number) direct_current_book.older_accepts)

older_by_1 : (answer_at rbk1 (older_book 1 0) 0 ≡ 1) × (rating_at rbk1 (older_book 1 0) 0 ≡ 0)
unfolding layout_of stands number_at number_bytes words_bytes trailer_bytes
older_by_1 = older_refused (older_book 1 0) 128 refl older_fine 0 1 0 feeder direct_current_book.older_reads refl
