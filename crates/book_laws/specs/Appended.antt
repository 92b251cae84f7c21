-- What is promised of append to an accepted book: one record more, and nothing else is changed. Assumes nothing.
use Rattle.std.specs.Prelude.{true, List, ◌≡◌, ℕ, ◌+◌, ◌-◌, ◌<◌, length, take, drop}
use Rattle.book_laws.specs.Bytes.{below}
use Rattle.book_laws.specs.Layout.{Layout, record_length, trailer_length}
use Rattle.book_laws.specs.Format.{answered_fields}
use Rattle.book_laws.specs.Trailer.{describe_in}
use Rattle.book_laws.specs.Start.{Written}
use Rattle.book_laws.specs.Read.{read_in}
use Rattle.book_laws.specs.Accept.{accept_in}

-- of w, which appending the case x to the book in b left
pub record AppendedIn (l : Layout) (b : List ℕ) (used : ℕ) (x : List ℕ) (w : Written) : Type 0 where
  pub used_is : w.used ≡ used + record_length l
  -- accepted, with one record more and the same note
  pub accepted :
      accept_in l w.bytes w.used
      ≡ record { number = 0; count = (describe_in l b used).count + 1; note = (describe_in l b used).first; named = 0 }
  pub reads_before : (i : ℕ) → i < (describe_in l b used).count → read_in l w.bytes w.used i ≡ read_in l b used i
  pub reads_last : read_in l w.bytes w.used (describe_in l b used).count ≡ record { number = 0; fields = answered_fields l x }
  -- up to the old trailer, and past the book
  pub front_untouched : take (used - trailer_length l) w.bytes ≡ take (used - trailer_length l) b
  pub rest_untouched : drop w.used w.bytes ≡ drop w.used b
  pub as_long : length w.bytes ≡ length b
  pub still_bytes : below 256 w.bytes ≡ true
