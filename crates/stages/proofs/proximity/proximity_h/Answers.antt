-- `stages::proximity::proximity_h` is the definition: one quotient.
use Rattle.std.proofs.Common.{arith}
use Rattle.formulas.specs.Constants.{tera}
use Rattle.formulas.specs.Proximity.{proximity_h}
use Rattle.stages.proofs.Quotients.{quotient_up_fits}
use Rattle.stages.proofs.proximity.proximity_h.Goals as goal

pub mul_div-requires : goal.mul_div-requires
unfolding proximity_h tera
mul_div-requires c = quotient_up_fits 600000000000 (omega arith) (omega arith) tt

pub returns : goal.returns
unfolding proximity_h tera
returns c = c.mul_div.ensures
