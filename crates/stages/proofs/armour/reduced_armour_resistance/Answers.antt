-- `stages::armour::reduced_armour_resistance` is the definition: the square of y, and the quotient of that.
use Rattle.std.proofs.Common.{ap, arith, ◌*◌, ◌+◌, ◌∙◌, ◌≤◌}
use Rattle.exact.specs.Rounding.{up}
use Rattle.exact.specs.Trillion.{trillion}
use Rattle.formulas.specs.Constants.{tera}
use Rattle.formulas.specs.Armour.{armour_ratio, armour_ratio_squared, reduced_armour_resistance}
use Rattle.formulas.proofs.Laws.LogRange.{down_bounded}
use Rattle.formulas.specs.Laws.Bounds.{most_resistance, most_armour_ratio, most_armour_ratio_squared}
use Rattle.stages.proofs.Quotients.{quotient_up_fits, square_most, square_fits}
use Rattle.stages.proofs.armour.reduced_armour_resistance.Goals as goal
use Rattle.stages.proofs.armour.reduced_armour_resistance.Goals.{After-ratio_squared-y2}

y2_most : (c : After-ratio_squared-y2) → c.ratio_squared-y2.result ≤ most_armour_ratio_squared
y2_most c =
    let squared =
    square_most down_bounded (554000000000 * c.args.ra) c.args.b most_armour_ratio most_armour_ratio_squared (omega arith) (omega arith) tt
    in
    omega (arith, c.ratio_squared-y2.ensures, squared)

pub ratio_squared-y2-requires : goal.ratio_squared-y2-requires
ratio_squared-y2-requires c = square_fits down_bounded most_armour_ratio most_armour_ratio_squared (omega arith) (omega arith) tt tt tt

pub returns : goal.returns
unfolding reduced_armour_resistance armour_ratio_squared armour_ratio tera
returns c = c.mul_div.ensures ∙ ap (λ y2. up (c.args.ra * trillion) (trillion + y2)) c.ratio_squared-y2.ensures

pub overflow_add-y2 : goal.overflow_add-y2
overflow_add-y2 c = omega (arith, y2_most c)

pub mul_div-requires : goal.mul_div-requires
mul_div-requires c = quotient_up_fits most_resistance (omega arith) (omega (arith, c.requires.ra_most)) tt
