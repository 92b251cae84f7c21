-- `stages::armour::unscreened_loss` is the definition: (2c/dA)², r, and the quotient of their product.
use Rattle.std.proofs.Common.{ap₂, arith, le_trans, lit<, lit≤, mul-le-mul, ◌*◌, ◌∙◌, ◌≤◌}
use Rattle.exact.specs.Rounding.{up}
use Rattle.exact.specs.Trillion.{trillion}
use Rattle.formulas.specs.CommonSheath.{axis_ratio}
use Rattle.formulas.specs.Armour.{unscreened_loss}
use Rattle.formulas.proofs.Laws.Ranges.{reduced_armour_resistance_most, axis_ratio_most}
use Rattle.formulas.specs.Laws.Bounds.{most_armour_loss}
use Rattle.stages.proofs.Quotients.{quotient_up_fits}
use Rattle.stages.proofs.armour.unscreened_loss.Goals as goal
use Rattle.stages.proofs.armour.unscreened_loss.Goals.{After-reduced_armour_resistance}

r_most : (c : After-reduced_armour_resistance) → 123 * c.reduced_armour_resistance.result ≤ 50061000000000000
r_most c =
    let args = c.args in
    omega (arith, reduced_armour_resistance_most args.ra args.b, c.reduced_armour_resistance.ensures, c.requires.reduced)

pub mul_div-requires : goal.mul_div-requires
mul_div-requires c = let pre = c.requires.axis in
    let place≤ : c.axis_ratio-place.result ≤ trillion =
    omega (arith, c.axis_ratio-place.ensures, axis_ratio_most c.args.c pre.d>0 pre.c_most)
    in
    quotient_up_fits most_armour_loss (lit< tt) (le_trans (mul-le-mul (r_most c) place≤) (lit≤ tt)) tt

pub returns : goal.returns
unfolding unscreened_loss axis_ratio
returns c = c.mul_div.ensures
    ∙ ap₂ (λ r place. up (123 * r * place) 100000000000000)
    c.reduced_armour_resistance.ensures
    c.axis_ratio-place.ensures

pub overflow_mul-reduced_armour_resistance : goal.overflow_mul-reduced_armour_resistance
overflow_mul-reduced_armour_resistance c = omega (arith, r_most c)
