-- `stages::sheath::eddy_factor` is the definition: the square of m, and the quotient of that.
use Rattle.std.proofs.Common.{ap, arith, ◌*◌, ◌+◌, ◌∙◌, ◌≡◌, ◌≤◌}
use Rattle.exact.specs.Rounding.{up}
use Rattle.exact.specs.Trillion.{trillion}
use Rattle.formulas.specs.Constants.{tera}
use Rattle.formulas.specs.Sheath.{eddy_ratio, eddy_ratio_squared, eddy_factor}
use Rattle.formulas.proofs.Laws.LogRange.{up_bounded}
use Rattle.formulas.proofs.Laws.Ranges.{eddy_ratio_most, eddy_ratio_squared_most}
use Rattle.formulas.specs.Laws.Bounds.{most_eddy_ratio, most_eddy_factor}
use Rattle.stages.proofs.Quotients.{quotient_up_fits, square_fits}
use Rattle.stages.proofs.sheath.eddy_factor.Goals as goal
use Rattle.stages.proofs.sheath.eddy_factor.Goals.{After-ratio_squared-m2}

m2_is : (c : After-ratio_squared-m2) → c.ratio_squared-m2.result ≡ eddy_ratio_squared (eddy_ratio c.args.b c.args.rs)
unfolding eddy_ratio_squared eddy_ratio tera
m2_is c = c.ratio_squared-m2.ensures

m2_most : (c : After-ratio_squared-m2) → c.ratio_squared-m2.result ≤ most_eddy_factor
m2_most c =
    let pre = c.requires in
    omega (arith, m2_is c, eddy_ratio_squared_most (eddy_ratio_most c.args.b pre.rs>0 pre.b_most))

pub ratio_squared-m2-requires : goal.ratio_squared-m2-requires
ratio_squared-m2-requires c = square_fits up_bounded most_eddy_ratio most_eddy_factor (omega arith) (omega arith) tt tt tt

pub overflow_add-m2 : goal.overflow_add-m2
overflow_add-m2 c = omega (arith, m2_most c)

pub mul_div-requires : goal.mul_div-requires
mul_div-requires c = quotient_up_fits most_eddy_factor (omega arith) (omega (arith, m2_most c)) tt

pub returns : goal.returns
unfolding eddy_factor tera
returns c = c.mul_div.ensures ∙ ap (λ m2. up (m2 * trillion) (trillion + m2)) (m2_is (goal.at.returns c).After-ratio_squared-m2)
