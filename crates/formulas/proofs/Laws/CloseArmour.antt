-- Stage 8 against its exact values. The ratio y is rounded down and known to some parts in 10^12, so 1/(1 + y²) is as well; W itself
-- may be small, so the units of its factors stay absolute. Assumes nothing.
use Rattle.std.specs.Prelude.{ℕ, ◌+◌, ◌*◌, ◌^◌, ◌≤◌, ◌<◌}
use Rattle.std.proofs.Common.{mul-pos, arith, lit<, lit≤}
use Rattle.exact.specs.Rounding.{up, down}
use Rattle.exact.specs.Fraction.{Fraction, ◌over◌, whole, ◌+F◌, ◌*F◌, ◌/F◌, square, ◌≤F◌, ◌≃F◌}
use Rattle.exact.proofs.Laws.Fraction.{closed≤, ≃F_refl, ≤F_refl}
use Rattle.exact.specs.Error.{Within}
use Rattle.exact.proofs.Laws.Error.{within_weaken, within_trans, within_same, within_times, within_product, within_scale}
use Rattle.exact.proofs.Laws.RoundingError.{within_up}
use Rattle.exact.specs.Trillion.{trillion}
use Rattle.formulas.specs.Constants.{tera, IsPi}
use Rattle.formulas.specs.Reactance.{reactance, reactance*}
use Rattle.formulas.specs.CommonSheath.{axis_ratio*}
use Rattle.formulas.specs.Armour.{
  armour_ratio,
  armour_ratio_squared,
  reduced_armour_resistance,
  unscreened_loss,
  screening_ratio_squared,
  screened_loss,
  armour_loss,
  armour_ratio*,
  reduced_armour_resistance*,
  unscreened_loss*,
  armour_loss*,
}
use Rattle.formulas.specs.Laws.Ranges.{In}
use Rattle.formulas.proofs.Laws.Ranges.{reactance_range, reduced_armour_resistance_most, unscreened_loss_most}
use Rattle.formulas.specs.Laws.Bounds.{least_sheath_resistance, most_resistance, least_sheath_reactance_low, most_armour_loss}
use Rattle.formulas.proofs.Laws.CloseInverse.{over_reactance_close, inverse_close, inverse_most}
use Rattle.formulas.proofs.Laws.CloseCommonSheath.{axis_ratio*_most}
use Rattle.formulas.proofs.Laws.CloseScreening.{screening_ratio_close, screening_close}
use Rattle.formulas.proofs.Laws.OverT.{quotient_close}

-- The loss before the screening.

pub armour_ratio_close :
    {π : Fraction} {f ra : ℕ} → IsPi π → In 1000 6500 f → In least_sheath_resistance most_resistance ra →
    Within 245 (whole 0) (armour_ratio ra (reactance f) over tera) (armour_ratio* ra (reactance* π f))
unfolding armour_ratio armour_ratio* tera ◌*F◌
armour_ratio_close {π} {f} {ra} pi range ra-in =
    let large : trillion * reactance f ≤ 205 * (554 * 10 ^ 9 * ra) = omega (arith, (reactance_range range).most, ra-in.least) in
    let close = over_reactance_close 205 (554 * 10 ^ 9 * ra) pi range large in
    within_same (≃F_refl _ (lit< tt))
    (record { left = close.below.right; right = omega (arith, close.below.right); across = omega arith })
    close

pub reduced_armour_resistance_close :
    {π : Fraction} {f ra : ℕ} → IsPi π → In 1000 6500 f → In least_sheath_resistance most_resistance ra →
    Within 491 (whole 1) (reduced_armour_resistance* ra (reactance* π f)) (whole (reduced_armour_resistance ra (reactance f)))
unfolding reduced_armour_resistance reduced_armour_resistance* armour_ratio_squared tera ◌+F◌ ◌*F◌
reduced_armour_resistance_close {π} {f} {ra} pi range ra-in =
    let y = armour_ratio ra (reactance f) in
    let scaled = within_scale (whole ra) (lit< tt) (inverse_close 245 y (armour_ratio_close pi range ra-in)) in
    let same : whole ra *F (10 ^ 12 over 10 ^ 12 + down (y * y) (10 ^ 12)) ≃F ra * 10 ^ 12 over 10 ^ 12 + down (y * y) (10 ^ 12) =
    record { left = omega arith; right = omega arith; across = omega arith }
    in
    within_weaken (lit≤ tt) (closed≤ tt)
    (within_trans (within_same (≃F_refl _ scaled.below.left) same scaled) (within_up (ra * 10 ^ 12) (omega arith)))

pub unscreened_close :
    (c : ℕ) {π : Fraction} {f ra dA : ℕ} → IsPi π → In 1000 6500 f → In least_sheath_resistance most_resistance ra → 0 < dA → 2 * c ≤ dA →
    Within 491 (whole 503) (unscreened_loss* ra (reactance* π f) c dA) (whole (unscreened_loss ra (reactance f) c dA))
unfolding unscreened_loss unscreened_loss* axis_ratio* tera ◌+F◌ ◌*F◌
unscreened_close c {π} {f} {ra} {dA} pi range ra-in dA>0 c≤ =
    let r = reduced_armour_resistance ra (reactance f) in
    let s = up (4 * (c * c) * 10 ^ 12) (dA * dA) in
    let r≤ : whole r *F (123 over 100) ≤F whole most_armour_loss =
    record { left = lit< tt; right = lit< tt; across = omega (arith, reduced_armour_resistance_most ra (reactance f), ra-in.most) }
    in
    let first = within_times (≤F_refl (123 over 100) (lit< tt)) (reduced_armour_resistance_close pi range ra-in) in
    let both = within_product (axis_ratio*_most c dA>0 c≤) r≤ first (quotient_close (4 * (c * c)) (mul-pos dA>0 dA>0)) in
    let lower :
    reduced_armour_resistance* ra (reactance* π f) *F (123 over 100) *F (4 * (c * c) over dA * dA) ≃F
    (123 over 100) *F reduced_armour_resistance* ra (reactance* π f) *F (4 * (c * c) over dA * dA) =
    record { left = both.below.left; right = omega (arith, both.below.left); across = omega arith }
    in
    let upper : whole r *F (123 over 100) *F (s over 10 ^ 12) ≃F 123 * r * s over 10 ^ 14 =
    record { left = lit< tt; right = lit< tt; across = omega arith }
    in
    within_weaken (lit≤ tt) (closed≤ tt)
    (within_trans (within_same lower upper both) (within_up (123 * r * s) (lit< tt)))

-- The loss itself.

pub armour_close :
    (c : ℕ) {π X* : Fraction} {f ra dA X rs : ℕ} → IsPi π → In 1000 6500 f → In least_sheath_resistance most_resistance ra → 0 < dA →
    2 * c ≤ dA → least_sheath_reactance_low ≤ X → In least_sheath_resistance most_resistance rs → Within 6000 (whole 1) (whole X) X* →
    Within 22694 (whole 1005) (armour_loss* ra (reactance* π f) c dA X* rs) (whole (armour_loss ra (reactance f) c dA X rs))
unfolding armour_loss armour_loss* screened_loss tera ◌+F◌ ◌*F◌
armour_close c {π} {X*} {f} {ra} {dA} {X} {rs} pi range ra-in dA>0 c≤ X≥ rs-in p =
    let w = unscreened_loss ra (reactance f) c dA in
    let s = up (10 ^ 12 * 10 ^ 12) (10 ^ 12 + screening_ratio_squared X rs) in
    let w≤ : whole w ≤F whole most_armour_loss =
    record { left = lit< tt; right = lit< tt; across = omega (arith, unscreened_loss_most (reactance f) c ra-in.most dA>0 c≤) }
    in
    let ratio>0 : 0 < (X* /F whole rs).den = (screening_ratio_close X≥ rs-in p).below.right in
    let both =
    within_product (inverse_most (square (X* /F whole rs)) (mul-pos ratio>0 ratio>0)) w≤
    (unscreened_close c pi range ra-in dA>0 c≤)
    (screening_close X≥ rs-in p)
    in
    let upper : whole w *F (s over 10 ^ 12) ≃F w * s over 10 ^ 12 =
    record { left = lit< tt; right = lit< tt; across = omega arith }
    in
    within_weaken (lit≤ tt) (closed≤ tt)
    (within_trans (within_same (≃F_refl _ both.below.left) upper both) (within_up (w * s) (lit< tt)))
