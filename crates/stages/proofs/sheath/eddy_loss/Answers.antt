-- `stages::sheath::eddy_loss` is the definition: e', the inner quotient, g' and the outer one.
use Rattle.std.proofs.Common.{ap, ap₂, arith, le_trans, lit<, lit≤, mul-le-mul, ◌*◌, ◌∙◌, ◌≤◌}
use Rattle.exact.specs.Rounding.{up}
use Rattle.exact.proofs.Laws.Rounding.{up_least}
use Rattle.exact.specs.Trillion.{trillion}
use Rattle.formulas.specs.Constants.{tera}
use Rattle.formulas.specs.Sheath.{eddy_loss}
use Rattle.formulas.proofs.Laws.Ranges.{eddy_factor_most, eddy_spacing_most}
use Rattle.formulas.specs.Laws.Bounds.{most_eddy_spacing, most_eddy_inner, most_eddy_factor}
use Rattle.stages.proofs.Quotients.{fits_up}
use Rattle.stages.proofs.sheath.eddy_loss.Goals as goal
use Rattle.stages.proofs.sheath.eddy_loss.Goals.{After-eddy_factor, After-mul_div_trillion-inner}

product_most : (c : After-eddy_factor) → c.args.rs * c.eddy_factor.result ≤ most_eddy_inner * trillion
product_most c =
    let pre = c.requires.factor in
    let e≤ : c.eddy_factor.result ≤ most_eddy_factor =
    omega (
      arith,
      eddy_factor_most c.args.b pre.rs>0 pre.b_most,
      c.eddy_factor.ensures,
    )
    in
    le_trans (mul-le-mul pre.rs_most e≤) (lit≤ tt)

cores_most :
    (c : After-mul_div_trillion-inner) → 3 * c.args.j * c.mul_div_trillion-inner.result ≤ 6 * most_eddy_inner
cores_most c =
    let j≤ : 3 * c.args.j ≤ 6 = omega (arith, c.requires.j_most) in
    let inner≤ : c.mul_div_trillion-inner.result ≤ most_eddy_inner =
    omega
    (arith, up_least _ most_eddy_inner {b = trillion} (lit< tt) (product_most c.before), c.mul_div_trillion-inner.ensures)
    in
    mul-le-mul j≤ inner≤

pub mul_div_trillion-requires : goal.mul_div_trillion-requires
mul_div_trillion-requires c = let pre = c.requires.spacing in
    let place≤ : c.eddy_spacing.result ≤ most_eddy_spacing =
    omega (arith, eddy_spacing_most pre.s>0 pre.apart, c.eddy_spacing.ensures)
    in
    fits_up 6105000000000 (lit< tt)
    (le_trans (mul-le-mul (cores_most (goal.at.mul_div_trillion-requires c).After-mul_div_trillion-inner) place≤) (lit≤ tt)) tt

pub returns : goal.returns
unfolding eddy_loss tera
returns c = let rs = c.args.rs in
    let j = c.args.j in
    c.mul_div_trillion.ensures
    ∙ ap₂ (λ inner place. up (3 * j * inner * place) trillion)
    (c.mul_div_trillion-inner.ensures ∙ ap (λ e. up (rs * e) trillion) c.eddy_factor.ensures)
    c.eddy_spacing.ensures

pub mul_div_trillion-inner-requires : goal.mul_div_trillion-inner-requires
mul_div_trillion-inner-requires c = fits_up most_eddy_inner (lit< tt) (product_most c) tt

pub overflow_mul-j-2 : goal.overflow_mul-j-2
overflow_mul-j-2 c = omega (arith, cores_most c)
