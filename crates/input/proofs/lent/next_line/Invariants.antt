-- `input::lent::next_line` meets its contract. The invariant: the positions stay within the buffers; each turn that goes on spends a read.
-- Assumes nothing.
use Rattle.std.proofs.Common.{length, ◌≤◌}
use Rattle.input.proofs.lent.next_line.Given as goal

abbrev pub invariant-loop-reads : goal.invariant-loop-reads
invariant-loop-reads g l =
    record {
      within : l.at ≤ l.end;
      inside : l.end ≤ length l.chunk;
      fits : l.len ≤ length l.line;
    }

abbrev pub decreases-loop-reads : goal.decreases-loop-reads
decreases-loop-reads g l = l.reads
