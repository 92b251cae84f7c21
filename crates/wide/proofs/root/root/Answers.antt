-- `wide::root::root` meets its contract. The loop's invariant: r + 1 is above the root, and r is a u32. The measure is r:
-- a step from above the root comes below r. Assumes nothing.
use Rattle.std.proofs.Common.{arith}
use Rattle.wide.proofs.Newton.{step_above, step_below}
use Rattle.wide.proofs.root.root.Goals as goal

pub loop-r-smaller : goal.loop-r-smaller
loop-r-smaller c = step_below _ _ c.loop-r-test.true

pub nonzero_div-r : goal.nonzero_div-r
nonzero_div-r c = omega (arith, loop-r-smaller c)

pub loop-r-preserved : goal.loop-r-preserved
loop-r-preserved c = record { r_below = omega (arith, loop-r-smaller c); above = step_above _ _ (nonzero_div-r c) }
