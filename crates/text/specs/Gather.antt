-- What is kept of a chunk for a line. Assumes nothing.
use Rattle.std.specs.Prelude.{Bool, not, List, ◌≡◌, ℕ, suc, ◌-◌, min, eqb, length, take, drop}
use Rattle.text.specs.Bytes.{line_feed}
use Rattle.text.specs.Line.{longest_line}

-- any byte but a line feed
unfoldable pub is_in_line : ℕ → Bool
is_in_line b = not (eqb b line_feed)

-- the bytes of a chunk from `from` up to, not including, `to`
unfoldable pub piece : ℕ → ℕ → List ℕ → List ℕ
piece from to chunk = take (to - from) (drop from chunk)

-- room for a line: a byte more than the longest has, so that a line that is too long is seen to be so
abbrev pub line_room : ℕ
line_room = suc longest_line

-- as many of them as there is room for
unfoldable pub kept : ℕ → ℕ → ℕ → List ℕ → List ℕ
kept room from to chunk = take room (piece from to chunk)

-- the first len elements of l are as much of the line as a room of n bytes holds
pub record Holds (n : ℕ) (l line : List ℕ) (len : ℕ) : Type 0 where
  pub size : len ≡ min n (length line)
  pub bytes : take len l ≡ take n line
