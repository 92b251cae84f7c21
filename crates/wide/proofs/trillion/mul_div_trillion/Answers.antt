-- `wide::trillion::mul_div_trillion` meets its contract: the quotient fits, so the product's upper limb is below 10^12.
-- Assumes nothing.
use Rattle.std.proofs.Common.{arith, lit<}
use Rattle.wide.specs.Limbs.{value}
use Rattle.wide.proofs.Carried.{high_fits, rounded_is}
use Rattle.wide.proofs.trillion.mul_div_trillion.Goals as goal

pub divide-d-requires : goal.divide-d-requires
unfolding value
divide-d-requires g c = high_fits _ g.met.R.Rounding.rounds _ _ (lit< tt) c.product.ensures c.requires

pub returns : goal.returns
returns g c = rounded_is _ g.met.R.Rounding.rounds c.product.ensures c.divide-d.ensures c.carry.ensures

pub overflow_add-result : goal.overflow_add-result
overflow_add-result g c = omega (arith, returns g c)
