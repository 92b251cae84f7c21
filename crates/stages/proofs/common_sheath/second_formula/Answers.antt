-- `stages::common_sheath::second_formula` is the definition: the numerator of two limbs, divided by 5 Rs and then by T, which is once by
-- their product. The last quotient is one limb, since S is small.
use Rattle.std.proofs.Common.{ap, arith, lit<, lt_of_le_of_lt, ℕ, ◌*◌, ◌+◌, ◌<◌, ◌^◌, ◌∙◌, ◌≡◌}
use Rattle.exact.specs.Rounding.{up}
use Rattle.exact.proofs.Laws.Rounding.{up_up}
use Rattle.exact.specs.Trillion.{trillion}
use Rattle.wide.specs.Limbs.{value}
use Rattle.formulas.specs.Constants.{tera}
use Rattle.formulas.specs.CommonSheath.{second_formula}
use Rattle.formulas.proofs.Laws.Ranges.{second_formula_most}
use Rattle.stages.proofs.common_sheath.second_formula.Goals as goal
use Rattle.stages.proofs.common_sheath.second_formula.Goals.{After-quotient}

S_is :
    (c : After-quotient) →
    let args = c.args in
    value c.quotient.result ≡ second_formula args.b args.rs args.ratio
unfolding second_formula tera
S_is c =
    let rs>0 : 0 < 5 * c.args.rs = omega (arith, c.requires.rs_above) in
    let squared = c.product.ensures in
    let numerator = c.scaled-numerator.ensures ∙ ap (λ n. n * c.args.ratio) squared in
    c.quotient.ensures
    ∙ ap (λ n. up n trillion) (c.quotient-share.ensures ∙ ap (λ n. up n (5 * c.args.rs)) numerator)
    ∙ up_up _ rs>0 (lit< tt)
    ∙ ap (λ n. up n (5 * c.args.rs * trillion)) (omega arith)

-- a number of two limbs that fits one is its lower limb
low_limb : (hi lo : ℕ) {n : ℕ} → hi * 2 ^ 64 + lo ≡ n → n < 2 ^ 64 → lo ≡ n
low_limb hi lo is small = omega arith

pub returns : goal.returns
unfolding value
returns c = let pre = c.requires in
    low_limb _ _ (S_is c) (lt_of_le_of_lt (second_formula_most pre.rs_above pre.b_most pre.ratio_most) (lit< tt))
