-- What is read of a line that stands in a chunk. Assumes nothing.
use Rattle.std.specs.Prelude.{cond, List, Option, Some, None, ℕ, ltb, length}
use Rattle.line_in_place.specs.declared.Line.{Line}
use Rattle.text.specs.declared.line.Said.{Said}
use Rattle.text.specs.Gather.{is_in_line, piece}
use Rattle.text.specs.Line.{read_line}
use Rattle.text.specs.Words.{run_end}

-- the place of the first line feed from `from` on, or the chunk's end
unfoldable pub line_end : List ℕ → ℕ → ℕ
line_end chunk from = run_end is_in_line chunk from

unfoldable pub line_of : ℕ → Said → Line
line_of to said = record { to = to; said = said }

-- what the line from `from` on says, if a line feed ends it in the chunk
unfoldable pub standing : List ℕ → ℕ → Option Line
standing chunk from =
    let to = line_end chunk from in
    cond (ltb to (length chunk)) (Some (line_of to (read_line (piece from to chunk)))) None
