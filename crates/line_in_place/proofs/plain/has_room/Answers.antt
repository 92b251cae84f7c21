-- `line_in_place::plain::has_room` meets its contract: where it is true, so many bytes are left.
-- Assumes nothing.
use Rattle.std.proofs.Common.{arith, leb-true}
use Rattle.line_in_place.specs.Plain.{longest_plain}
use Rattle.line_in_place.proofs.plain.has_room.Goals as goal

pub returns : goal.returns
unfolding longest_plain
returns c room = omega (arith, leb-true _ c.saturating_sub.result room)
