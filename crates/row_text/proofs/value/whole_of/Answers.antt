-- `row_text::value::whole_of` meets its contract: the sign, and the digits before the point. Assumes nothing.
use Rattle.std.proofs.Common.{ap, lit<, negsuc, pos, refl, rules, unsigned_abs, List, [], ℕ, ℤ}
use Rattle.std.proofs.Common.{ap₂, ◌++◌, ◌/◌, ◌^◌, ◌<ℤ◌, ◌∙◌, ◌∷◌, ◌≡◌, ◌≤ℤ◌}
use Rattle.std.proofs.lemmas.Int.{to_z-of_z}
use Rattle.decimals.specs.Decimal.{decimal}
use Rattle.row_text.specs.Value.{sign, whole}
use Rattle.row_text.proofs.Digits.{positive}
use Rattle.row_text.proofs.value.whole_of.Goals as goal
use Rattle.row_text.proofs.value.whole_of.Goals.{then-z-lt0, else-z-lt0}

sign_below : (z : ℤ) → z <ℤ pos 0 → 45 ∷ [] ≡ sign z
unfolding sign
sign_below (pos n) h = absurd (search (rules, h))
sign_below (negsuc n) h = refl

sign_above : (z : ℤ) → pos 0 ≤ℤ z → [] ≡ sign z
unfolding sign
sign_above (pos n) h = refl
sign_above (negsuc n) h = absurd (search (rules, h))

pub nonzero_div-unsigned_abs : goal.nonzero_div-unsigned_abs
nonzero_div-unsigned_abs c = positive c.args.decimals _ c.pow.ensures

pub returns : goal.returns
unfolding whole
returns c =
    let digits = decimal (unsigned_abs c.args.z / 10 ^ c.args.decimals) in
    let size = c.unsigned_abs.ensures.value ∙ search (rules, to_z-of_z) in
    let written : c.put_wide.new.out.bytes ≡ c.if-z-lt0.text.bytes ++ digits =
    c.put_wide.ensures
    ∙ ap₂ (λ (n p : ℕ). c.if-z-lt0.text.bytes ++ decimal (n / p)) size c.pow.ensures in
    elim c.if-z-lt0.branch [
      | then-z-lt0 w ↦
          written
          ∙ ap (λ (t : List ℕ). t ++ digits)
          (ap (λ o. o.bytes) w.text-is ∙ w.push.ensures.ascii (lit< tt) ∙ ap (λ (t : List ℕ). t ++ (45 ∷ [])) c.new-text.ensures
          ∙ sign_below c.args.z (search (rules, to_z-of_z, w.if-z-lt0.true)))
      | else-z-lt0 w ↦
          written
          ∙ ap (λ (t : List ℕ). t ++ digits)
          (ap (λ o. o.bytes) w.text-is ∙ c.new-text.ensures ∙ sign_above c.args.z (search (rules, to_z-of_z, w.if-z-lt0.false)))
    ]
