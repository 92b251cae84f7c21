-- Stage 6 against its exact values: the upper end of L is within 145 parts in 10^12 of any L between the ends, since L is at least
-- ln 2, and X is within 200. Assumes nothing.
use Rattle.std.specs.Prelude.{Bool, true, false, cond, ℕ, zero, suc, ◌+◌, ◌*◌, ◌≤◌, ◌<◌, eqb}
use Rattle.std.proofs.Common.{mul-pos, mul-le-mul, le_refl, le_trans, le-add_right, arith, lit<, lit≤}
use Rattle.exact.proofs.Laws.Rounding.{up_least_below}
use Rattle.exact.specs.Fraction.{Fraction, ◌over◌, whole, ◌+F◌, ◌*F◌, reciprocal, ◌/F◌, ◌≤F◌, ◌≃F◌}
use Rattle.exact.proofs.Laws.Fraction.{closed≤, ≃F_refl, ≤F_refl, *F_comm}
use Rattle.exact.specs.Error.{Within}
use Rattle.exact.proofs.Laws.Error.{within_weaken, within_sum, within_scale, within_relative_product, within_same}
use Rattle.exact.proofs.Laws.RoundingError.{within_round}
use Rattle.formulas.specs.Constants.{tera, ln2_low, ln2_high, ln2_third_high, IsPi, IsLn2}
use Rattle.formulas.specs.Reactance.{reactance, reactance*}
use Rattle.formulas.specs.Logarithm.{octaves, log_low, log_high, IsLog}
use Rattle.formulas.specs.Spacing.{third_of, spacing_log_high, sheath_reactance, spacing_log*, sheath_reactance*}
use Rattle.formulas.proofs.Laws.Octaves.{Largest, octaves_largest}
use Rattle.formulas.proofs.Laws.LogEndsGap.{log_gap}
use Rattle.formulas.specs.Laws.Ranges.{In}
use Rattle.formulas.proofs.Laws.Ranges.{reactance_range}
use Rattle.formulas.proofs.Laws.CloseReactance.{reactance_close}
use Rattle.formulas.proofs.Laws.LogRange.{tera>0}
use Rattle.formulas.specs.Laws.Bounds.{least_reactance, least_spacing_log, least_sheath_reactance}
use Rattle.formulas.proofs.Laws.Between.{between_below, between_widen}

-- 2s/d is at least 2, so its logarithm has an octave
pub octaves_least : (a b : ℕ) → 0 < b → 2 * b ≤ a → 1 ≤ octaves a b
octaves_least a b b>0 h = go (octaves a b) (octaves_largest a b b>0 (omega arith))
  where
    go : (k : ℕ) → Largest a b k → 1 ≤ k
    go zero none = omega (arith, none.above)
    go (suc k) some = omega arith

log_high_octave : (a b : ℕ) → 0 < b → 2 * b ≤ a → least_spacing_log ≤ log_high a b
unfolding log_high ln2_high
log_high_octave a b b>0 h = omega (arith, octaves_least a b b>0 h)

pub spacing_log_high_least : (arrangement : ℕ) {s d : ℕ} → 0 < d → d ≤ s → least_spacing_log ≤ spacing_log_high arrangement s d
unfolding spacing_log_high
spacing_log_high_least arrangement {s} {d} d>0 d≤s =
    le_trans (log_high_octave (2 * s) d d>0 (omega arith)) (le-add_right (log_high (2 * s) d) _)

log_close :
    {s d : ℕ} {log : Fraction} → 0 < d → d ≤ s → 2 * s < 32768 * d → IsLog (2 * s) d log →
    Within 145 (whole 0) log (log_high (2 * s) d over tera)
log_close {s} {d} d>0 d≤s <d p =
    between_below 145 (log_low (2 * s) d) (log_high (2 * s) d) tera tera>0
    (omega (arith, log_high_octave (2 * s) d d>0 (omega arith), log_gap (2 * s) d d>0 (omega arith) <d))
    p

-- the end of a third of ln 2 is rounded up: three of it are 1 more than the end of ln 2
thrice_third_close : {ln2 : Fraction} → IsLn2 ln2 → Within 145 (whole 0) ln2 (3 * ln2_third_high over tera)
unfolding ln2_low ln2_high ln2_third_high
thrice_third_close p =
    between_below 145 693147180559 693147180561 tera tera>0 (lit≤ tt) (between_widen (lit≤ tt) (lit≤ tt) p)

pub zero_and_zero : whole 0 +F whole 0 ≤F whole 0
unfolding ◌+F◌
zero_and_zero = closed≤ tt

-- the exact L is as close as the logarithm and the ln 2 from which it is made
pub spacing_log_within :
    (arrangement : ℕ) {r : ℕ} {log log' ln2 ln2' : Fraction} → Within r (whole 0) log log' → Within r (whole 0) ln2 ln2' →
    Within r (whole 0) (spacing_log* arrangement log ln2) (spacing_log* arrangement log' ln2')
unfolding spacing_log*
spacing_log_within arrangement {r} {log} {log'} {ln2} {ln2'} p q = go (eqb arrangement 2)
  where
    third : Within r (whole 0) (ln2 /F whole 3) (ln2' /F whole 3)
    third = unfold reciprocal in rw (*F_comm ln2 (1 over 3), *F_comm ln2' (1 over 3)) (within_scale (1 over 3) (lit< tt) q)

    go : (is-two : Bool) → Within r (whole 0) (cond is-two (log +F ln2 /F whole 3) log) (cond is-two (log' +F ln2' /F whole 3) log')
    go true = within_weaken (le_refl r) zero_and_zero (within_sum p third)
    go false = p

-- from an end of the logarithm and three of an end of the third it is the rounded L
pub spacing_log_of_ends :
    (arrangement end third : ℕ) →
    spacing_log* arrangement (end over tera) (3 * third over tera) ≃F (end + third_of arrangement third over tera)
unfolding spacing_log* ◌+F◌ ◌*F◌ reciprocal
spacing_log_of_ends arrangement end third = go (eqb arrangement 2)
  where
    go :
        (is-two : Bool) →
        cond is-two ((end over tera) +F (3 * third over tera) /F whole 3) (end over tera) ≃F (end + cond is-two third 0 over tera)
    go true = record { left = mul-pos tera>0 (mul-pos tera>0 (lit< tt)); right = tera>0; across = omega arith }
    go false = record { left = tera>0; right = tera>0; across = omega arith }

pub spacing_log_close :
    (arrangement : ℕ) {s d : ℕ} {log ln2 : Fraction} → IsLn2 ln2 → IsLog (2 * s) d log → 0 < d → d ≤ s → 2 * s < 32768 * d →
    Within 145 (whole 0) (spacing_log* arrangement log ln2) (spacing_log_high arrangement s d over tera)
unfolding spacing_log_high
spacing_log_close arrangement {s} {d} two p d>0 d≤s <d =
    let at_end = spacing_log_within arrangement (log_close d>0 d≤s <d p) (thrice_third_close two) in
    within_same (≃F_refl _ at_end.below.left) (spacing_log_of_ends arrangement (log_high (2 * s) d) ln2_third_high) at_end

-- what stage 7 divides is not small
pub sheath_reactance_least : {b l : ℕ} → least_reactance ≤ b → least_spacing_log ≤ l → least_sheath_reactance ≤ sheath_reactance b l
unfolding sheath_reactance tera
sheath_reactance_least b≥ l≥ = up_least_below _ _ (lit< tt) (omega (arith, mul-le-mul b≥ l≥))

product_close :
    {r s b l : ℕ} {b* l* : Fraction} → least_reactance ≤ b → least_spacing_log ≤ l → Within r (whole 0) b* (whole b) →
    Within s (whole 0) l* (l over tera) →
    Within (r + s + 12) (whole 0) (sheath_reactance* b* l*) (whole (sheath_reactance b l))
unfolding sheath_reactance sheath_reactance* ◌*F◌
product_close {b = b} {l} b≥ l≥ p q =
    let exact_part = within_relative_product p q in
    within_round 12 tera>0 (omega (arith, sheath_reactance_least b≥ l≥))
    (within_same (≃F_refl _ exact_part.below.left)
    (record { left = exact_part.below.right; right = tera>0; across = omega arith })
    exact_part)

pub sheath_reactance_close :
    (arrangement : ℕ) {f s d : ℕ} {π log ln2 : Fraction} → IsPi π → IsLn2 ln2 → In 1000 6500 f → IsLog (2 * s) d log → 0 < d →
    d ≤ s → 2 * s < 32768 * d →
    Within 200 (whole 0) (sheath_reactance* (reactance* π f) (spacing_log* arrangement log ln2))
    (whole (sheath_reactance (reactance f) (spacing_log_high arrangement s d)))
sheath_reactance_close arrangement {f} pi two range p d>0 d≤s <d =
    within_weaken (lit≤ tt) (≤F_refl (whole 0) (lit< tt))
    (product_close (reactance_range range).least (spacing_log_high_least arrangement d>0 d≤s) (reactance_close pi range)
    (spacing_log_close arrangement two p d>0 d≤s <d))
