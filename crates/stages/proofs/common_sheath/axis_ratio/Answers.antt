-- `stages::common_sheath::axis_ratio` is the definition: one quotient.
use Rattle.std.proofs.Common.{arith, mul-le-mul, mul-pos}
use Rattle.exact.specs.Trillion.{trillion}
use Rattle.formulas.specs.Constants.{tera}
use Rattle.formulas.specs.CommonSheath.{axis_ratio}
use Rattle.stages.proofs.Quotients.{quotient_up_fits}
use Rattle.stages.proofs.common_sheath.axis_ratio.Goals as goal
use Rattle.stages.proofs.common_sheath.axis_ratio.Goals.{Start}

pub mul_div-requires : goal.mul_div-requires
mul_div-requires c =
    quotient_up_fits trillion (mul-pos c.requires.d>0 c.requires.d>0) (omega (arith, mul-le-mul c.requires.c_most c.requires.c_most)) tt

pub returns : goal.returns
unfolding axis_ratio tera
returns c = c.mul_div.ensures
