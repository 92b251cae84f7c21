-- `stages::sheath::eddy_spacing` is the definition: one quotient.
use Rattle.std.proofs.Common.{arith, mul-le-mul, mul-pos}
use Rattle.formulas.specs.Constants.{tera}
use Rattle.formulas.specs.Sheath.{eddy_spacing}
use Rattle.formulas.specs.Laws.Bounds.{most_eddy_spacing}
use Rattle.stages.proofs.Quotients.{quotient_up_fits}
use Rattle.stages.proofs.sheath.eddy_spacing.Goals as goal

pub mul_div-requires : goal.mul_div-requires
mul_div-requires c = let s²>0 = mul-pos c.requires.s>0 c.requires.s>0 in
    quotient_up_fits most_eddy_spacing (omega arith) (omega (arith, mul-le-mul c.requires.apart c.requires.apart)) tt

pub returns : goal.returns
unfolding eddy_spacing tera
returns c = c.mul_div.ensures
