-- `stages::proximity::proximity_g` is the definition: one quotient.
use Rattle.std.proofs.Common.{arith, lit<, mul-le-mul}
use Rattle.formulas.specs.Proximity.{proximity_g}
use Rattle.stages.proofs.Quotients.{quotient_up_fits}
use Rattle.stages.proofs.proximity.proximity_g.Goals as goal

pub mul_div-requires : goal.mul_div-requires
unfolding proximity_g
mul_div-requires c = quotient_up_fits 80000000000 (lit< tt) (omega (arith, mul-le-mul c.requires.u_most c.requires.factor_most)) tt

pub returns : goal.returns
unfolding proximity_g
returns c = c.mul_div.ensures
