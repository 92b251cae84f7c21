-- `input::tests::count` meets its contract: as many lines are counted as the steps gave.
-- Assumes nothing.
use Rattle.std.proofs.Common.{length, ◌≡◌}
use Rattle.input.proofs.tests.count.Given as goal

abbrev pub invariant-loop-line : goal.invariant-loop-line
invariant-loop-line l = l.count ≡ length l.yielded
