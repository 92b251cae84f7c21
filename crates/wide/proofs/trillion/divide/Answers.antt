-- `wide::trillion::divide` meets its contract: with no upper limb it is `/` and `%`, and else 10^12 is 2^12 times 5^12, which
-- omega multiplies out. Assumes nothing.
use Rattle.std.proofs.Common.{arith, ◌^◌}
use Rattle.wide.specs.Limbs.{value}
use Rattle.wide.specs.Laws.Split.{divided_low}
use Rattle.wide.proofs.trillion.divide.Goals as goal

pub returns-then-n-eq0 : goal.returns-then-n-eq0
unfolding value
returns-then-n-eq0 c = divided_low c.args.n.hi c.args.n.lo (2 ^ 64) c.if-n-eq0.true (omega arith)

pub returns : goal.returns
unfolding value
returns c = record { whole = omega arith; below = omega arith }
