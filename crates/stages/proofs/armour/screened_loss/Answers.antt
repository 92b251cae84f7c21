-- `stages::armour::screened_loss` is the definition: v2, the screening, and the loss that it leaves.
use Rattle.std.proofs.Common.{ap, arith, lit<, mul-le-mul, ◌*◌, ◌+◌, ◌∙◌, ◌≡◌, ◌≤◌}
use Rattle.exact.specs.Rounding.{up}
use Rattle.exact.specs.Trillion.{trillion}
use Rattle.formulas.specs.Constants.{tera}
use Rattle.formulas.specs.Armour.{screening_ratio_squared, screened_loss}
use Rattle.formulas.proofs.Laws.LogRange.{down_bounded}
use Rattle.formulas.proofs.Laws.Ranges.{screening_ratio_squared_most, screening_most}
use Rattle.formulas.specs.Laws.Bounds.{most_bond_ratio, most_bond_ratio_squared, most_armour_loss}
use Rattle.stages.proofs.Quotients.{fits_up, quotient_up_fits, square_fits}
use Rattle.stages.proofs.armour.screened_loss.Goals as goal
use Rattle.stages.proofs.armour.screened_loss.Goals.{After-mul_div, After-ratio_squared-v2}

v2_is : (c : After-ratio_squared-v2) → c.ratio_squared-v2.result ≡ screening_ratio_squared c.args.x c.args.rs
unfolding screening_ratio_squared tera
v2_is c = c.ratio_squared-v2.ensures

v2_most : (c : After-ratio_squared-v2) → c.ratio_squared-v2.result ≤ most_bond_ratio_squared
v2_most c =
    let pre = c.requires.ratio in
    omega (arith, screening_ratio_squared_most pre.x_most pre.rs_least, v2_is c)

pub ratio_squared-v2-requires : goal.ratio_squared-v2-requires
ratio_squared-v2-requires c = square_fits down_bounded most_bond_ratio most_bond_ratio_squared (omega arith) (omega arith) tt tt tt

share_is : (c : After-mul_div) → c.mul_div.result ≡ up (tera * tera) (tera + screening_ratio_squared c.args.x c.args.rs)
unfolding tera
share_is c =
    c.mul_div.ensures
    ∙ ap (λ v2. up (trillion * trillion) (trillion + v2)) (v2_is c.before)

pub mul_div_trillion-requires : goal.mul_div_trillion-requires
mul_div_trillion-requires c =
    let share≤ : c.mul_div.result ≤ trillion = omega (arith, share_is c, screening_most (screening_ratio_squared c.args.x c.args.rs)) in
    fits_up most_armour_loss (lit< tt) (mul-le-mul c.requires.w_most share≤) tt

pub returns : goal.returns
unfolding screened_loss tera
returns c = let w = c.args.w in
    c.mul_div_trillion.ensures ∙ ap (λ share. up (w * share) trillion) (share_is (goal.at.returns c).After-mul_div)

pub overflow_add-v2 : goal.overflow_add-v2
overflow_add-v2 c = omega (arith, v2_most c)

pub mul_div-requires : goal.mul_div-requires
mul_div-requires c = quotient_up_fits trillion (omega arith) (omega arith) tt
