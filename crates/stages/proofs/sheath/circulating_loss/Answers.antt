-- `stages::sheath::circulating_loss` is the definition: v2, and the quotient of it.
use Rattle.std.proofs.Common.{ap, arith, mul-le-mul_right, ◌*◌, ◌+◌, ◌∙◌, ◌≡◌, ◌≤◌}
use Rattle.exact.specs.Rounding.{up}
use Rattle.exact.specs.Trillion.{trillion}
use Rattle.formulas.specs.Constants.{tera}
use Rattle.formulas.specs.Sheath.{bond_ratio, bond_ratio_squared, circulating_loss}
use Rattle.formulas.proofs.Laws.LogRange.{up_bounded}
use Rattle.formulas.proofs.Laws.Ranges.{bond_ratio_most, bond_ratio_squared_most}
use Rattle.formulas.specs.Laws.Bounds.{most_resistance, most_bond_ratio, most_bond_ratio_squared}
use Rattle.stages.proofs.Quotients.{quotient_up_fits, square_fits}
use Rattle.stages.proofs.sheath.circulating_loss.Goals as goal
use Rattle.stages.proofs.sheath.circulating_loss.Goals.{After-ratio_squared-v2}

v2_is : (c : After-ratio_squared-v2) → c.ratio_squared-v2.result ≡ bond_ratio_squared (bond_ratio c.args.x c.args.rs)
unfolding bond_ratio_squared bond_ratio tera
v2_is c = c.ratio_squared-v2.ensures

v2_most : (c : After-ratio_squared-v2) → c.ratio_squared-v2.result ≤ most_bond_ratio_squared
v2_most c =
    let pre = c.requires.ratio in
    omega (arith, bond_ratio_squared_most (bond_ratio_most pre.x_most pre.rs_least), v2_is c)

pub ratio_squared-v2-requires : goal.ratio_squared-v2-requires
ratio_squared-v2-requires c = square_fits up_bounded most_bond_ratio most_bond_ratio_squared (omega arith) (omega arith) tt tt tt

pub mul_div-requires : goal.mul_div-requires
mul_div-requires c = let rs = c.args.rs in
    let v2 = c.ratio_squared-v2.result in
    quotient_up_fits most_resistance (omega arith) (omega (arith, mul-le-mul_right v2 c.requires.rs_most)) tt

pub returns : goal.returns
unfolding circulating_loss tera
returns c = c.mul_div.ensures
    ∙ ap (λ v2. up (c.args.rs * v2) (trillion + v2)) (v2_is (goal.at.returns c).After-ratio_squared-v2)

pub overflow_add-v2 : goal.overflow_add-v2
overflow_add-v2 c = omega (arith, v2_most c)
