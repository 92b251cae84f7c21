-- `stages::common_sheath::first_formula` is the definition: y2, b2, the two terms, and 3 Rs times their sum.
use Rattle.std.proofs.Common.{arith, le_trans, lit<, lit≤, mul-le-mul, ◌*◌, ◌+◌, ◌∙◌, ◌≡◌, ◌≤◌}
use Rattle.exact.specs.Rounding.{up}
use Rattle.exact.specs.Trillion.{trillion}
use Rattle.formulas.specs.Constants.{tera}
use Rattle.formulas.specs.CommonSheath.{first_formula_limit, common_ratio, common_ratio_squared, axis_ratio_squared, first_formula}
use Rattle.formulas.proofs.Laws.LogRange.{down_bounded}
use Rattle.formulas.proofs.Laws.Ranges.{axis_ratio_squared_most, common_ratio_most, common_ratio_squared_most, common_term_most}
use Rattle.formulas.specs.Laws.Bounds.{most_common_ratio, most_common_ratio_squared, most_common_loss}
use Rattle.stages.proofs.Quotients.{fits_up, square_fits}
use Rattle.stages.proofs.common_sheath.first_formula.Goals as goal
use Rattle.stages.proofs.common_sheath.first_formula.Goals.{After-ratio_squared-y2, After-mul_div_trillion-ratio2, After-term-2}

y2_is : (c : After-ratio_squared-y2) → c.ratio_squared-y2.result ≡ common_ratio_squared (common_ratio c.args.rs c.args.b)
unfolding common_ratio_squared common_ratio tera
y2_is c = c.ratio_squared-y2.ensures

pub ratio_squared-y2-requires : goal.ratio_squared-y2-requires
ratio_squared-y2-requires c = square_fits down_bounded most_common_ratio most_common_ratio_squared (omega arith) (omega arith) tt tt tt

y2_most : (c : After-ratio_squared-y2) → c.ratio_squared-y2.result ≤ most_common_ratio_squared
y2_most c =
    let pre = c.requires.common in
    omega (arith, y2_is c, common_ratio_squared_most (common_ratio_most pre.rs_most pre.b_least))

b2_is : (c : After-mul_div_trillion-ratio2) → c.mul_div_trillion-ratio2.result ≡ axis_ratio_squared c.args.ratio
unfolding axis_ratio_squared tera
b2_is c = c.mul_div_trillion-ratio2.ensures

b2_most : (c : After-mul_div_trillion-ratio2) → c.mul_div_trillion-ratio2.result ≤ trillion
b2_most c = omega (arith, b2_is c, axis_ratio_squared_most c.requires.ratio_most)

terms_most : (c : After-term-2) → c.term.result + c.term-2.result ≤ 2 * trillion
terms_most c =
    let y2 = c.ratio_squared-y2.result in
    let first = common_term_most y2 c.requires.ratio_most in
    let second = common_term_most (4 * y2) (b2_most c.before.before) in
    omega (arith, c.term.ensures, c.term-2.ensures, first, second)

product_most :
    (c : After-term-2) →
    3 * c.args.rs * (c.term.result + c.term-2.result) ≤ most_common_loss * trillion
product_most c =
    let three≤ : 3 * c.args.rs ≤ 3 * first_formula_limit =
    omega (arith, c.requires.common.rs_most)
    in
    le_trans (mul-le-mul three≤ (terms_most c)) (lit≤ tt)

pub returns : goal.returns
unfolding first_formula tera
returns c = let rs = c.args.rs in
    let b = c.args.ratio in
    let y2 = y2_is (goal.at.returns c).After-ratio_squared-y2 in
    let first = c.term.ensures ∙ (λ i. up (b * trillion) (trillion + y2 i)) in
    let second = c.term-2.ensures
    ∙ (λ i. up (b2_is (goal.at.returns c).After-mul_div_trillion-ratio2 i * trillion) (trillion + 4 * y2 i)) in
    c.mul_div_trillion.ensures ∙ (λ i. up (3 * rs * (first i + second i)) trillion)

pub mul_div_trillion-ratio2-requires : goal.mul_div_trillion-ratio2-requires
mul_div_trillion-ratio2-requires c = fits_up trillion (lit< tt) (mul-le-mul c.requires.ratio_most c.requires.ratio_most) tt

pub term-requires : goal.term-requires
term-requires c =
    record { part_most = c.requires.ratio_most; k_most = omega (arith, y2_most (goal.at.term-requires c).After-ratio_squared-y2) }

pub overflow_mul-y2 : goal.overflow_mul-y2
overflow_mul-y2 c = omega (arith, y2_most (goal.at.overflow_mul-y2 c).After-ratio_squared-y2)

pub term-requires-2 : goal.term-requires-2
term-requires-2 c =
    record {
      part_most = b2_most (goal.at.term-requires-2 c).After-mul_div_trillion-ratio2;
      k_most = omega (arith, y2_most (goal.at.term-requires-2 c).After-ratio_squared-y2);
    }

pub overflow_add-term : goal.overflow_add-term
overflow_add-term c = omega (arith, terms_most c)

pub mul_div_trillion-requires : goal.mul_div_trillion-requires
mul_div_trillion-requires c = fits_up most_common_loss (lit< tt) (product_most c) tt
