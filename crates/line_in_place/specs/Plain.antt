-- The usual line: numbers with one blank or tab between two of them, which stands whole in a chunk. Assumes nothing.
use Rattle.std.specs.Prelude.{List, ◌≡◌, ℕ, ◌+◌, ◌*◌, ◌<◌, length}
use Rattle.line_in_place.specs.Standing.{line_end}
use Rattle.text.specs.Gather.{piece}
use Rattle.text.specs.Line.{case_of, read_line}

-- a line that ends at `to`, of the numbers xs
pub record PlainLine (s : List ℕ) (from to : ℕ) (xs : List ℕ) : Type 0 where
  pub inside : to < length s
  pub end : to ≡ line_end s from
  pub says : read_line (piece from to s) ≡ case_of xs

-- the most bytes that n numbers take in such a line: for each eleven and one after it, and a carriage return
unfoldable pub longest_plain : ℕ → ℕ
longest_plain n = n * 12 + 1
