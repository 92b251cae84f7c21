-- `wide::root::root` meets its contract. The loop's invariant: r + 1 is above the root, and r is a u32. The measure is r:
-- a step from above the root comes below r. Assumes nothing.
use Rattle.wide.specs.Laws.Ranges.{RootOrAbove}
use Rattle.wide.proofs.root.root.Given as goal

abbrev pub invariant-loop-r : goal.invariant-loop-r
invariant-loop-r l = RootOrAbove l.x l.r

abbrev pub decreases-loop-r : goal.decreases-loop-r
decreases-loop-r l = l.r
