-- `stages::common_sheath::term` is the definition: one quotient, which is at most `part`.
use Rattle.std.proofs.Common.{arith}
use Rattle.exact.specs.Trillion.{trillion}
use Rattle.formulas.specs.Constants.{tera}
use Rattle.stages.proofs.Quotients.{quotient_up_fits}
use Rattle.stages.proofs.common_sheath.term.Goals as goal

pub returns : goal.returns
unfolding tera
returns c = c.mul_div.ensures

pub mul_div-requires : goal.mul_div-requires
mul_div-requires c = quotient_up_fits trillion (omega arith) (omega (arith, c.requires.part_most)) tt
