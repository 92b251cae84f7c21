-- `wide::ratio::mul_div` meets its contract: the quotient fits, so the product's upper limb is below the divisor.
-- Assumes nothing.
use Rattle.wide.specs.Limbs.{value}
use Rattle.wide.proofs.Carried.{high_fits}
use Rattle.wide.proofs.ratio.mul_div.Goals as goal

pub divide-d-requires : goal.divide-d-requires
unfolding value
divide-d-requires g c = high_fits _ g.met.R.Rounding.rounds _ _ c.requires.c>0 c.product-n.ensures c.requires.fits
