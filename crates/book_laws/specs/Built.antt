-- A book of given cases as it stands in a buffer, whether it fits there, and what is promised of a book built from cases. Assumes nothing.
use Rattle.std.specs.Prelude.{List, [], ◌++◌, ◌≡◌, ℕ, ◌+◌, ◌*◌, ◌≤◌, ◌<◌, length, get_or, take, drop}
use Rattle.splice.specs.Splice.{splice}
use Rattle.book_laws.specs.Layout.{Layout, record_length, trailer_length}
use Rattle.book_laws.specs.Format.{answered_fields, records_bytes, trailer_bytes}
use Rattle.book_laws.specs.Start.{Written}
use Rattle.book_laws.specs.Read.{read_in}
use Rattle.book_laws.specs.Accept.{accept_in}

-- The records of the cases and the trailer, and the used length of a book of n records.

unfoldable pub book_bytes : Layout → List (List ℕ) → List ℕ
book_bytes l xs = records_bytes l xs ++ trailer_bytes l (length xs)

abbrev pub used_for : Layout → ℕ → ℕ → ℕ
used_for l note n = note + record_length l * n + trailer_length l

-- what stands in the buffer b
unfoldable pub built_in : Layout → List ℕ → ℕ → List (List ℕ) → Written
built_in l b note xs = record { number = 0; used = used_for l note (length xs); bytes = splice b note (book_bytes l xs) }

pub record FitsIn (l : Layout) (b : List ℕ) (note n : ℕ) : Type 0 where
  pub room : used_for l note n ≤ length b
  pub most : n ≤ l.most

-- what is promised of w, which building from these cases left
pub record KeptIn (l : Layout) (b : List ℕ) (note : ℕ) (xs : List (List ℕ)) (w : Written) : Type 0 where
  pub used : w.used ≡ used_for l note (length xs)
  pub reads : (i : ℕ) → i < length xs → read_in l w.bytes w.used i ≡ record { number = 0; fields = answered_fields l (get_or xs i []) }
  pub accepted : accept_in l w.bytes w.used ≡ record { number = 0; count = length xs; note = note; named = 0 }
  pub note_untouched : take note w.bytes ≡ take note b
  pub rest_untouched : drop w.used w.bytes ≡ drop w.used b
  pub as_long : length w.bytes ≡ length b
