-- What the steps over lent buffers ask and keep of a place: it stays within the chunk, and a line within its buffer; and what is said of
-- a line that the chunk has to its end. Assumes nothing.
use Rattle.std.specs.Prelude.{Some, ℕ, ◌+◌, ◌≤◌}
use Rattle.input.specs.declared.lent.Input.{Input}
use Rattle.input.specs.declared.lent.NextLine.{NextLine}
use Rattle.input.specs.declared.lent.NextSaid.{NextSaid}
use Rattle.line_in_place.specs.declared.Line as standing

-- a position within a chunk of n bytes
pub record Ready (i : Input) (n : ℕ) : Type 0 where
  pub within : i.at ≤ i.end
  pub inside : i.end ≤ n

-- the line is within its buffer, and the next position within its chunk
pub record Given (l : NextLine) (n m : ℕ) : Type 0 where
  pub fits : l.len ≤ m
  pub ready : Ready l.next n

-- what is said of a line that stands whole in the chunk, and the place past its line feed
unfoldable pub said_here : standing.Line → Input → NextSaid
said_here here from = record { said = Some here.said; next = record { at = here.to + 1; end = from.end; reads = from.reads } }
