-- Stage 2 and the A of stage 3 against their exact values: pi's upper end and one rounding up keep them within 40 and 66 parts in
-- 10^12. Every later bound begins with these. Assumes nothing.
use Rattle.std.specs.Prelude.{ℕ, ◌*◌, ◌^◌}
use Rattle.std.proofs.Common.{arith, lit<, lit≤}
use Rattle.exact.specs.Fraction.{Fraction, ◌over◌, whole, ◌*F◌, ◌≃F◌}
use Rattle.exact.proofs.Laws.Fraction.{≃F_refl}
use Rattle.exact.specs.Error.{Within}
use Rattle.exact.proofs.Laws.Error.{within_scale, within_same}
use Rattle.exact.proofs.Laws.RoundingError.{within_round}
use Rattle.formulas.specs.Constants.{pi_low, pi_high, IsPi}
use Rattle.formulas.specs.Reactance.{reactance, reactance*}
use Rattle.formulas.specs.Laws.Ranges.{In}
use Rattle.formulas.proofs.Laws.Ranges.{reactance_range}
use Rattle.formulas.proofs.Laws.Between.{between_below}

pub pi_within : {π : Fraction} → IsPi π → Within 32 (whole 0) π (pi_high over 10 ^ 10)
unfolding pi_low pi_high
pi_within p = between_below 32 31415926535 31415926536 (10 ^ 10) (lit< tt) (lit≤ tt) p

pub reactance_close : {π : Fraction} {f : ℕ} → IsPi π → In 1000 6500 f → Within 40 (whole 0) (reactance* π f) (whole (reactance f))
unfolding reactance reactance* pi_high ◌*F◌
reactance_close {π} {f} p range =
    let scaled : whole (4 * f * 10 ^ 7) *F (31415926536 over 10 ^ 10) ≃F f * 31415926536 over 250 =
    record { left = lit< tt; right = lit< tt; across = omega arith }
    in
    let exact_part = within_scale (whole (4 * f * 10 ^ 7)) (lit< tt) (pi_within p) in
    within_round 8 (lit< tt) (omega (arith, reactance_range range))
    (within_same (≃F_refl _ exact_part.below.left) scaled exact_part)
