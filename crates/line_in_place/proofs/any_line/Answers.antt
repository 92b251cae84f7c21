-- `line_in_place::any_line` meets its contract: a line feed before the chunk's end ends the line, and its bytes are read.
-- Assumes nothing.
use Rattle.line_in_place.specs.Standing.{line_end, line_of}
use Rattle.line_in_place.specs.Laws.Standing.{stands_whole, stands_in_part}
use Rattle.text.specs.Gather.{piece}
use Rattle.line_in_place.proofs.any_line.Goals as goal

pub returns-then-to-chunk : goal.returns-then-to-chunk
unfolding line_of line_end piece
returns-then-to-chunk c = stands_whole _ _ _ c.line_feed-to.ensures _ c.if-to-chunk.true c.read_line.ensures

pub returns : goal.returns
unfolding line_end
returns c = stands_in_part _ _ _ c.line_feed-to.ensures c.if-to-chunk.false
