-- Cables whose rating rests on an input that RBK2 stores and RBK1 does not, each in a book of either mark: a low-voltage cable, a cable in
-- soil that dries out and a cable in the sun. The record of RBK2 has the rating with that input, and demand 3 holds of it. RBK1 stores the
-- other inputs, so that the rating with zeros behind them agrees there. With the other mark's rating a record disagrees. Assumes nothing.
use Rattle.std.specs.Prelude.{List, [], ◌∷◌, ◌++◌, ◌≡◌, refl, ℕ, ◌+◌}
use Rattle.std.proofs.Common.{ap, ap₂}
use Rattle.bools.specs.Earliest.{earliest}
use Rattle.exact.specs.Fraction.{whole, ◌≤F◌, ◌<F◌}
use Rattle.rating.specs.Values.{permitted_of}
use Rattle.rating.specs.Chosen.{Chosen}
use Rattle.rating.specs.Allowed.{Allowed}
use Rattle.rating.specs.Arrangements.{own}
use Rattle.rating.specs.Exact.{exact_rise}
use Rattle.rating.proofs.Laws.Answers.{low_voltage, low_voltage_counted, dry_soil, three_cores, sunlit, sunlit_older}
use Rattle.rating.proofs.Laws.Instances.{answer_low_voltage, answer_counted, chosen_low_voltage, allowed_low_voltage}
use Rattle.rating.proofs.Laws.Instances.{answer_6, answer_dry, answer_sun, answer_sun_older, chosen_6, allowed_dry, allowed_sun}
use Rattle.book_laws.specs.Bytes.{number_bytes, number_at, words_bytes, words_at, stands}
use Rattle.book_laws.specs.Layout.{rbk1, rbk2}
use Rattle.book_laws.specs.Format.{all_fields, trailer_bytes}
use Rattle.book_laws.specs.Trailer.{wrong_trailer, describe_at, describe_in, on_book_in}
use Rattle.book_laws.specs.Record.{agrees, all_agree, first_disagreeing}
use Rattle.book_laws.specs.Read.{read_after, read_in}
use Rattle.book_laws.specs.Accept.{Acceptance, unaccepted, accept_after, accept_in}
use Rattle.book_laws.specs.Book.{layout_of, read_of, accept_of, Accepted}
use Rattle.book_laws.proofs.Laws.Demands.{accepted}
use Rattle.book_laws.proofs.Laws.Judged.{one_record, accepted_as}
use Rattle.book_laws.proofs.Laws.Margin.{safe, close}

-- one record is accepted, or it disagrees

abbrev one_accepted : Acceptance
one_accepted = record { number = 0; count = 1; note = 0; named = 0 }

abbrev first_disagrees : Acceptance
first_disagrees = record { number = 23; count = 0; note = 0; named = 1 }

-- the case x, rated i, and what an older book makes of it, rated j
pub record FurtherBook (x older : List ℕ) (i j : ℕ) : Type 0 where
  pub reads : read_of (one_record rbk2 x 0 i) 144 0 ≡ record { number = 0; fields = x ++ (0 ∷ i ∷ []) }
  pub accepts : accept_of (one_record rbk2 x 0 i) 144 ≡ one_accepted
  pub disagrees : accept_of (one_record rbk2 x 0 j) 144 ≡ first_disagrees
  pub older_reads : read_of (one_record rbk1 x 0 j) 128 0 ≡ record { number = 0; fields = older ++ (0 ∷ j ∷ []) }
  pub older_accepts : accept_of (one_record rbk1 x 0 j) 128 ≡ one_accepted
  pub older_disagrees : accept_of (one_record rbk1 x 0 i) 128 ≡ first_disagrees

pub record FurtherBooks : Type 0 where
  pub low_voltage_book : FurtherBook low_voltage low_voltage_counted 280655 280511
  pub dry_soil_book : FurtherBook dry_soil three_cores 360793 469955
  pub sun_book : FurtherBook sunlit sunlit_older 579762 637128

pub further_books : FurtherBooks
unfolding read_in read_after accept_in accept_after unaccepted on_book_in describe_in describe_at wrong_trailer agrees all_agree
    first_disagreeing earliest all_fields trailer_bytes stands layout_of number_at number_bytes words_at words_bytes
further_books =
    record {
      low_voltage_book =
          record {
            reads = refl;
            accepts = ap₂ (accepted_as 280655) answer_low_voltage.0 answer_low_voltage.1;
            disagrees = ap₂ (accepted_as 280511) answer_low_voltage.0 answer_low_voltage.1;
            older_reads = refl;
            older_accepts = ap₂ (accepted_as 280511) answer_counted.0 answer_counted.1;
            older_disagrees = ap₂ (accepted_as 280655) answer_counted.0 answer_counted.1;
          };
      dry_soil_book =
          record {
            reads = refl;
            accepts = ap₂ (accepted_as 360793) answer_dry.0 answer_dry.1;
            disagrees = ap₂ (accepted_as 469955) answer_dry.0 answer_dry.1;
            older_reads = refl;
            older_accepts = ap₂ (accepted_as 469955) answer_6.0 answer_6.1;
            older_disagrees = ap₂ (accepted_as 360793) answer_6.0 answer_6.1;
          };
      sun_book =
          record {
            reads = refl;
            accepts = ap₂ (accepted_as 579762) answer_sun.0 answer_sun.1;
            disagrees = ap₂ (accepted_as 637128) answer_sun.0 answer_sun.1;
            older_reads = refl;
            older_accepts = ap₂ (accepted_as 637128) answer_sun_older.0 answer_sun_older.1;
            older_disagrees = ap₂ (accepted_as 579762) answer_sun_older.0 answer_sun_older.1;
          };
    }

-- demand 3 of the record of such a book of RBK2
module _ {x older : List ℕ} {i j : ℕ} (book : FurtherBook x older i j) (c : Chosen) (allowed : Allowed (own x) x c) where
  fine : Accepted (one_record rbk2 x 0 i) 144
  fine = accepted _ 144 (ap (λ a. a.number) book.accepts)

  under : exact_rise x c (whole i) ≤F whole (permitted_of x)
  under = safe _ 144 fine 0 i x book.reads c allowed

  over : whole (permitted_of x) <F exact_rise x c (whole (i + 2))
  over = close _ 144 fine 0 i x book.reads c allowed

under_low_voltage : exact_rise low_voltage chosen_low_voltage (whole 280655) ≤F whole (permitted_of low_voltage)
under_low_voltage = under further_books.low_voltage_book chosen_low_voltage allowed_low_voltage

over_low_voltage : whole (permitted_of low_voltage) <F exact_rise low_voltage chosen_low_voltage (whole 280657)
over_low_voltage = over further_books.low_voltage_book chosen_low_voltage allowed_low_voltage

under_dry : exact_rise dry_soil chosen_6 (whole 360793) ≤F whole (permitted_of dry_soil)
under_dry = under further_books.dry_soil_book chosen_6 allowed_dry

over_dry : whole (permitted_of dry_soil) <F exact_rise dry_soil chosen_6 (whole 360795)
over_dry = over further_books.dry_soil_book chosen_6 allowed_dry

under_sun : exact_rise sunlit chosen_6 (whole 579762) ≤F whole (permitted_of sunlit)
under_sun = under further_books.sun_book chosen_6 allowed_sun

over_sun : whole (permitted_of sunlit) <F exact_rise sunlit chosen_6 (whole 579764)
over_sun = over further_books.sun_book chosen_6 allowed_sun
