-- `stages::proximity::ac_resistance` is the definition: one quotient.
use Rattle.std.proofs.Common.{arith, lit<, mul-le-mul, ◌+◌, ◌≤◌}
use Rattle.formulas.specs.Constants.{tera}
use Rattle.formulas.specs.Proximity.{ac_resistance}
use Rattle.formulas.specs.Laws.Bounds.{most_ac_resistance}
use Rattle.stages.proofs.Quotients.{fits_up}
use Rattle.exact.specs.Trillion.{trillion}
use Rattle.stages.proofs.proximity.ac_resistance.Goals as goal

pub mul_div_trillion-requires : goal.mul_div_trillion-requires
mul_div_trillion-requires c = let sum≤ : trillion + c.args.ys + c.args.yp ≤ 1934900000000 = omega arith in
    fits_up most_ac_resistance (lit< tt) (omega (arith, mul-le-mul c.requires.rc_most sum≤)) tt

pub returns : goal.returns
unfolding ac_resistance tera
returns c = c.mul_div_trillion.ensures
