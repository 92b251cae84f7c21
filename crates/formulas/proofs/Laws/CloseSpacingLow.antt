-- X- against the exact X: it is not above it, and below it by at most 200 parts in 10^12 and 1. The armour's screening takes X-, so
-- that W is not too small. Assumes nothing.
use Rattle.std.specs.Prelude.{ℕ, ◌*◌, ◌^◌, ◌≤◌, ◌<◌}
use Rattle.std.proofs.Common.{mul-le-mul, le_trans, le-add_right, arith, lit<, lit≤}
use Rattle.exact.specs.Rounding.{up, down}
use Rattle.exact.proofs.Laws.Rounding.{down_most}
use Rattle.exact.specs.Fraction.{Fraction, ◌over◌, whole, ◌+F◌, ◌*F◌, ◌≤F◌}
use Rattle.exact.proofs.Laws.Fraction.{closed≤, ≃F_refl}
use Rattle.exact.specs.Error.{parts, Within}
use Rattle.exact.proofs.Laws.Error.{within_weaken, within_trans, within_scale, within_same, within_relative_product}
use Rattle.exact.proofs.Laws.RoundingError.{within_round_down}
use Rattle.formulas.specs.Constants.{tera, pi_low, pi_high, ln2_low, ln2_high, ln2_third_low, IsPi, IsLn2}
use Rattle.formulas.specs.Reactance.{reactance_low, reactance*}
use Rattle.formulas.specs.Logarithm.{log_low, log_high, IsLog}
use Rattle.formulas.specs.Spacing.{spacing_log_low, sheath_reactance_low, spacing_log*, sheath_reactance*}
use Rattle.formulas.proofs.Laws.LogEndsGap.{log_gap}
use Rattle.formulas.specs.Laws.Ranges.{In}
use Rattle.formulas.proofs.Laws.CloseSpacing.{octaves_least, zero_and_zero, spacing_log_within, spacing_log_of_ends}
use Rattle.formulas.proofs.Laws.LogRange.{tera>0}
use Rattle.formulas.specs.Laws.Bounds.{least_sheath_reactance_low}
use Rattle.formulas.proofs.Laws.Between.{between_above, between_widen}

reactance_low_close : {π : Fraction} {f : ℕ} → IsPi π → In 1000 6500 f → Within 40 (whole 0) (whole (reactance_low f)) (reactance* π f)
unfolding reactance_low reactance* pi_low pi_high ◌*F◌
reactance_low_close {π} {f} p range =
    let pi_part = between_above 32 31415926535 31415926536 (10 ^ 10) (lit< tt) (lit≤ tt) p in
    let exact_part = within_scale (whole (4 * f * 10 ^ 7)) (lit< tt) pi_part in
    within_weaken (lit≤ tt) zero_and_zero
    (within_trans (within_round_down 8 (f * 31415926535) (lit< tt) (omega (arith, range.least)))
    (within_same (record { left = exact_part.below.left; right = lit< tt; across = omega arith })
    (≃F_refl _ exact_part.below.right)
    exact_part))

log_low_octave : (a b : ℕ) → 0 < b → 2 * b ≤ a → 693147180559 ≤ log_low a b
unfolding log_low ln2_low
log_low_octave a b b>0 h = omega (arith, octaves_least a b b>0 h)

log_above :
    {s d : ℕ} {log : Fraction} → 0 < d → d ≤ s → 2 * s < 32768 * d → IsLog (2 * s) d log →
    Within 145 (whole 0) (log_low (2 * s) d over tera) log
log_above {s} {d} d>0 d≤s <d p =
    between_above 145 (log_low (2 * s) d) (log_high (2 * s) d) tera tera>0
    (omega (arith, log_low_octave (2 * s) d d>0 (omega arith), log_gap (2 * s) d d>0 (omega arith) <d))
    p

-- the end of a third of ln 2 is rounded down: three of it are 1 less than the end of ln 2
thrice_third_above : {ln2 : Fraction} → IsLn2 ln2 → Within 145 (whole 0) (3 * ln2_third_low over tera) ln2
unfolding ln2_low ln2_high ln2_third_low
thrice_third_above p =
    between_above 145 693147180558 693147180560 tera tera>0 (lit≤ tt) (between_widen (lit≤ tt) (lit≤ tt) p)

spacing_log_low_close :
    (arrangement : ℕ) {s d : ℕ} {log ln2 : Fraction} → IsLn2 ln2 → IsLog (2 * s) d log → 0 < d → d ≤ s → 2 * s < 32768 * d →
    Within 145 (whole 0) (spacing_log_low arrangement s d over tera) (spacing_log* arrangement log ln2)
unfolding spacing_log_low
spacing_log_low_close arrangement {s} {d} two p d>0 d≤s <d =
    let at_end = spacing_log_within arrangement (log_above d>0 d≤s <d p) (thrice_third_above two) in
    within_same (spacing_log_of_ends arrangement (log_low (2 * s) d) ln2_third_low) (≃F_refl _ at_end.below.right) at_end

spacing_log_low_least : (arrangement : ℕ) {s d : ℕ} → 0 < d → d ≤ s → 693147180559 ≤ spacing_log_low arrangement s d
unfolding spacing_log_low
spacing_log_low_least arrangement {s} {d} d>0 d≤s =
    le_trans (log_low_octave (2 * s) d d>0 (omega arith)) (le-add_right (log_low (2 * s) d) _)

reactance_low_least : {f : ℕ} → 1000 ≤ f → 125663706140 ≤ reactance_low f
unfolding reactance_low pi_low
reactance_low_least f≥ = down_most _ _ (lit< tt) (omega arith)

-- what the screening divides is not small
pub sheath_reactance_low_least :
    (arrangement : ℕ) {f s d : ℕ} → 1000 ≤ f → 0 < d → d ≤ s →
    least_sheath_reactance_low ≤ sheath_reactance_low (reactance_low f) (spacing_log_low arrangement s d)
unfolding sheath_reactance_low tera up down
sheath_reactance_low_least arrangement f≥ d>0 d≤s =
    omega (arith, mul-le-mul (reactance_low_least f≥) (spacing_log_low_least arrangement d>0 d≤s))

-- X- is not above B- L-/T, and less than 1 below it. Proved from the definition, opened, and not from a law of one direction of rounding:
-- a definition that rounds the other way is refused here, at a product for which the bound fails.
sheath_reactance_low_rounds : (b l : ℕ) → Within 0 (whole 1) (whole (sheath_reactance_low b l)) (b * l over tera)
unfolding sheath_reactance_low tera up down parts ◌+F◌ ◌*F◌
sheath_reactance_low_rounds b l =
    record {
      below = record { left = lit< tt; right = lit< tt; across = omega arith };
      close = record { left = lit< tt; right = lit< tt; across = omega arith };
    }

one_and : whole 1 +F whole 0 ≤F whole 1
unfolding ◌+F◌
one_and = closed≤ tt

pub sheath_reactance_low_close :
    (arrangement : ℕ) {f s d : ℕ} {π log ln2 : Fraction} → IsPi π → IsLn2 ln2 → In 1000 6500 f → IsLog (2 * s) d log → 0 < d →
    d ≤ s → 2 * s < 32768 * d →
    Within 200 (whole 1) (whole (sheath_reactance_low (reactance_low f) (spacing_log_low arrangement s d)))
    (sheath_reactance* (reactance* π f) (spacing_log* arrangement log ln2))
unfolding sheath_reactance* ◌*F◌
sheath_reactance_low_close arrangement {f} {s} {d} pi two range p d>0 d≤s <d =
    let exact_part = within_relative_product (reactance_low_close pi range) (spacing_log_low_close arrangement two p d>0 d≤s <d) in
    within_weaken (lit≤ tt) one_and
    (within_trans (sheath_reactance_low_rounds (reactance_low f) (spacing_log_low arrangement s d))
    (within_same (record { left = exact_part.below.left; right = tera>0; across = omega arith })
    (≃F_refl _ exact_part.below.right)
    exact_part))
