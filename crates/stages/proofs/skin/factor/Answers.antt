-- `stages::skin::factor` is the definition: w, and the quotient of it.
use Rattle.std.proofs.Common.{ap, arith, lit<, mul-le-mul, ◌*◌, ◌+◌, ◌∙◌, ◌≡◌, ◌≤◌}
use Rattle.exact.specs.Rounding.{up}
use Rattle.exact.specs.Trillion.{trillion}
use Rattle.formulas.specs.Constants.{tera}
use Rattle.formulas.specs.Skin.{skin_ratio_squared, factor}
use Rattle.formulas.proofs.Laws.Ranges.{skin_ratio_squared_most}
use Rattle.formulas.specs.Laws.Bounds.{most_skin_ratio_squared}
use Rattle.stages.proofs.Quotients.{fits_up, quotient_up_fits}
use Rattle.stages.proofs.skin.factor.Goals as goal
use Rattle.stages.proofs.skin.factor.Goals.{After-mul_div_trillion-w}

w_is : (c : After-mul_div_trillion-w) → c.mul_div_trillion-w.result ≡ skin_ratio_squared c.args.z
unfolding skin_ratio_squared tera
w_is c = c.mul_div_trillion-w.ensures

w_most : (c : After-mul_div_trillion-w) → c.mul_div_trillion-w.result ≤ most_skin_ratio_squared
w_most c = omega (arith, w_is c, skin_ratio_squared_most c.requires)

pub mul_div_trillion-w-requires : goal.mul_div_trillion-w-requires
unfolding factor tera
mul_div_trillion-w-requires c = fits_up most_skin_ratio_squared (lit< tt) (omega (arith, mul-le-mul c.requires c.requires)) tt

pub overflow_mul-w : goal.overflow_mul-w
unfolding factor tera
overflow_mul-w c = omega (arith, w_most c)

pub overflow_mul-w-2 : goal.overflow_mul-w-2
unfolding factor tera
overflow_mul-w-2 c = omega (arith, w_most c)

pub overflow_add-w : goal.overflow_add-w
unfolding factor tera
overflow_add-w c = omega (arith, w_most c)

pub mul_div-requires : goal.mul_div-requires
unfolding factor tera
mul_div-requires c = quotient_up_fits most_skin_ratio_squared (omega arith) (omega (arith, w_most c)) tt

pub returns : goal.returns
unfolding factor tera
returns c =
    c.mul_div.ensures ∙ ap (λ w. up (5 * w * trillion) (960 * trillion + 4 * w)) (w_is (goal.at.returns c).After-mul_div_trillion-w)
