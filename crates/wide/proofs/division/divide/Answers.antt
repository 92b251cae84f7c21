-- `wide::division::divide` meets its contract: with no upper limb it is `/` and `%`, and else long division. Assumes nothing.
use Rattle.std.proofs.Common.{arith, ◌^◌}
use Rattle.wide.specs.Limbs.{value}
use Rattle.wide.specs.Laws.Split.{divided_low}
use Rattle.wide.proofs.division.divide.Goals as goal

pub returns-then-n-eq0 : goal.returns-then-n-eq0
unfolding value
returns-then-n-eq0 c = divided_low c.args.n.hi c.args.n.lo (2 ^ 64) c.if-n-eq0.true (omega arith)
