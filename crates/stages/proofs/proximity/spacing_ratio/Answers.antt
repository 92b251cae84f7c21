-- `stages::proximity::spacing_ratio` is the definition: one quotient.
use Rattle.std.proofs.Common.{arith, mul-le-mul, mul-pos}
use Rattle.exact.specs.Trillion.{trillion}
use Rattle.formulas.specs.Constants.{tera}
use Rattle.formulas.specs.Proximity.{spacing_ratio}
use Rattle.stages.proofs.Quotients.{quotient_up_fits}
use Rattle.stages.proofs.proximity.spacing_ratio.Goals as goal

pub mul_div-requires : goal.mul_div-requires
mul_div-requires c = let s²>0 = mul-pos c.requires.s>0 c.requires.s>0 in
    quotient_up_fits trillion s²>0 (omega (arith, mul-le-mul c.requires.apart c.requires.apart)) tt

pub returns : goal.returns
unfolding spacing_ratio tera
returns c = c.mul_div.ensures
