-- docs/BOOK.md, start: a book without records after a note whose bytes stand at the front of the buffer already. Assumes nothing.
use Rattle.std.specs.Prelude.{cond, List, ℕ, ◌+◌, ltb, length}
use Rattle.splice.specs.Splice.{splice}
use Rattle.book_laws.specs.Layout.{Layout, trailer_length}
use Rattle.book_laws.specs.Format.{trailer_bytes}

-- what start and append leave: 0 or the refusal's number, the new used length, and every byte of the buffer
pub record Written : Type 0 where
  pub number : ℕ
  pub used : ℕ
  pub bytes : List ℕ

-- a refusal changes no byte
unfoldable pub unwritten : ℕ → List ℕ → Written
unwritten n b = record { number = n; used = 0; bytes = b }

unfoldable pub start_in : Layout → List ℕ → ℕ → Written
start_in l b note =
    cond (ltb (length b) (note + trailer_length l)) (unwritten 24 b)
    (record { number = 0; used = note + trailer_length l; bytes = splice b note (trailer_bytes l 0) })
