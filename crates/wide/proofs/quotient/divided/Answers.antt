-- `wide::quotient::divided` meets its contract: each limb is one digit of the quotient, in base 2^64. Assumes nothing.
use Rattle.std.proofs.Common.{◌^◌}
use Rattle.wide.specs.Limbs.{value}
use Rattle.wide.specs.Laws.Split.{divided}
use Rattle.wide.proofs.LongDivision.{two_digits}
use Rattle.wide.proofs.quotient.divided.Goals as goal

pub returns : goal.returns
unfolding value
returns c = two_digits c.args.w.lo (2 ^ 64) (divided c.args.w.hi c.requires) c.divide-low.ensures
