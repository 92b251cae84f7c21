-- A number at a place of a chunk. Assumes nothing.
use Rattle.std.specs.Prelude.{true, List, Some, ◌≡◌, ℕ, ◌+◌, ◌≤◌, ◌<◌, length}
use Rattle.text.specs.Gather.{piece}
use Rattle.text.specs.Number.{every, is_numeral, read_number}

-- a word of digits, or of a minus sign and digits, that says x; it has at most eleven bytes, and the chunk goes on after it
pub record NumberAt (s : List ℕ) (at to x : ℕ) : Type 0 where
  pub some : at < to
  pub near : to ≤ at + 11
  pub inside : to < length s
  pub numeral : every is_numeral (piece at to s) ≡ true
  pub says : read_number (piece at to s) ≡ Some x
