-- Stage 8's screening against its exact value: 1/(1 + v²), from an X- within 6000 parts in 10^12 and 1, is within 22203 parts and one
-- unit of 10^-12. Assumes nothing.
use Rattle.std.specs.Prelude.{ℕ, ◌+◌, ◌*◌, ◌^◌, ◌≤◌, ◌<◌}
use Rattle.std.proofs.Common.{arith, lit<, lit≤}
use Rattle.exact.specs.Rounding.{up, down}
use Rattle.exact.specs.Fraction.{Fraction, ◌over◌, whole, ◌+F◌, ◌*F◌, reciprocal, ◌/F◌, square, ◌≤F◌, ◌≃F◌}
use Rattle.exact.proofs.Laws.Fraction.{closed≤, ≃F_refl, ≤F_refl, ≤F_trans, *F_mono}
use Rattle.exact.specs.Error.{parts, Within}
use Rattle.exact.proofs.Laws.Error.{within_weaken, within_trans, within_same, within_absorb, within_scale}
use Rattle.exact.proofs.Laws.RoundingError.{within_round_down}
use Rattle.exact.specs.Trillion.{trillion}
use Rattle.formulas.specs.Constants.{tera}
use Rattle.formulas.specs.Armour.{screening_ratio_squared}
use Rattle.formulas.specs.Laws.Ranges.{In}
use Rattle.formulas.specs.Laws.Bounds.{least_sheath_resistance, most_resistance, least_sheath_reactance_low}
use Rattle.formulas.proofs.Laws.CloseInverse.{tera_th, inverse_close}
use Rattle.formulas.proofs.Laws.OverT.{quotient_close}

pub screening_ratio_close :
    {X rs : ℕ} {X* : Fraction} → least_sheath_reactance_low ≤ X → In least_sheath_resistance most_resistance rs →
    Within 6000 (whole 1) (whole X) X* →
    Within 11101 (whole 0) (down (X * tera) rs over tera) (X* /F whole rs)
unfolding tera parts ◌+F◌ ◌*F◌ reciprocal
screening_ratio_close {X} {rs} {X*} X≥ rs-in p =
    let rs>0 : 0 < rs = omega (arith, rs-in.least) in
    let large : trillion * rs ≤ 5088 * (X * 10 ^ 12) = omega (arith, rs-in.most) in
    let unit : whole 1 ≤F parts 13 *F X* =
    ≤F_trans {y = parts 13 *F whole X}
    (record { left = lit< tt; right = lit< tt; across = omega arith })
    (*F_mono (≤F_refl (parts 13) (lit< tt)) p.below)
    in
    let rounded = tera_th 5088 (within_round_down 5088 (X * 10 ^ 12) rs>0 large) in
    let exact = within_scale (1 over rs) rs>0 (within_absorb 13 unit p) in
    let same : (1 over 10 ^ 12) *F (X * 10 ^ 12 over rs) ≃F (1 over rs) *F whole X =
    record { left = omega arith; right = omega arith; across = omega arith }
    in
    let turned : (1 over rs) *F X* ≃F X* *F (1 over rs) =
    record { left = exact.below.right; right = omega (arith, exact.below.right); across = omega arith }
    in
    within_weaken (lit≤ tt) (closed≤ tt)
    (within_trans (within_same (≃F_refl _ (lit< tt)) same rounded) (within_same (≃F_refl _ exact.below.left) turned exact))

pub screening_close :
    {X rs : ℕ} {X* : Fraction} → least_sheath_reactance_low ≤ X → In least_sheath_resistance most_resistance rs →
    Within 6000 (whole 1) (whole X) X* →
    Within 22203 (1 over tera)
    (reciprocal (whole 1 +F square (X* /F whole rs)))
    (up (tera * tera) (tera + screening_ratio_squared X rs) over tera)
unfolding screening_ratio_squared tera ◌+F◌ ◌*F◌
screening_close {X} {rs} {X*} X≥ rs-in p =
    let v = down (X * 10 ^ 12) rs in
    let v2 = down (v * v) (10 ^ 12) in
    let exact = inverse_close 11101 v (screening_ratio_close X≥ rs-in p) in
    within_weaken (lit≤ tt) (closed≤ tt) (within_trans exact (quotient_close (10 ^ 12) {b = 10 ^ 12 + v2} (omega arith)))
