-- Stage 3 against its exact values: A within 66 parts in 10^12, and z, w and the factor within twice that and a few units of
-- 10^-12, which each rounding up to a whole number over T adds. Assumes nothing.
use Rattle.std.specs.Prelude.{ℕ, ◌*◌, ◌^◌, ◌≤◌, ◌<◌}
use Rattle.std.proofs.Common.{mul-pos, mul-le-mul, arith, lit<, lit≤}
use Rattle.exact.proofs.Laws.Rounding.{up_least_below}
use Rattle.exact.specs.Fraction.{Fraction, ◌over◌, whole, ◌+F◌, ◌*F◌, reciprocal, ◌/F◌, square, ◌≤F◌, ◌≃F◌}
use Rattle.exact.proofs.Laws.Fraction.{≃F_refl, ≤F_refl, ≤F_trans}
use Rattle.exact.specs.Error.{Within}
use Rattle.exact.proofs.Laws.Error.{within_same, within_times, within_product, within_scale}
use Rattle.exact.proofs.Laws.RoundingError.{within_round}
use Rattle.formulas.specs.Constants.{tera, pi_high, IsPi}
use Rattle.formulas.specs.Skin.{
  skin_reactance,
  skin_ratio,
  skin_ratio_squared,
  factor,
  skin_factor,
  skin_reactance*,
  skin_ratio*,
  factor*,
  skin_factor*,
}
use Rattle.formulas.specs.Laws.Ranges.{In}
use Rattle.formulas.proofs.Laws.CloseReactance.{pi_within}
use Rattle.formulas.proofs.Laws.LogRange.{tera>0}
use Rattle.formulas.specs.Refusals.{skin_limit}
use Rattle.formulas.proofs.Laws.OverT.{Close, over_at_most, rewrite_above, round_up, saturate_times}

skin_reactance_least : {f k : ℕ} → 1000 ≤ f → 120 ≤ k → 30000000000 ≤ skin_reactance f k
unfolding skin_reactance pi_high
skin_reactance_least {f} {k} f≥ k≥ = up_least_below _ _ (lit< tt) (omega (arith, mul-le-mul f≥ k≥))

pub skin_reactance_close :
    {π : Fraction} {f k : ℕ} → IsPi π → In 1000 6500 f → In 120 1000 k →
    Within 66 (whole 0) (skin_reactance* π f k) (whole (skin_reactance f k))
unfolding skin_reactance skin_reactance* pi_high ◌*F◌
skin_reactance_close {π} {f} {k} p f-range k-range =
    let scaled : whole (8 * f * k * 10 ^ 4) *F (31415926536 over 10 ^ 10) ≃F f * 31415926536 * k over 125000 =
    record { left = lit< tt; right = lit< tt; across = omega arith }
    in
    let exact_part = within_scale (whole (8 * f * k * 10 ^ 4)) (lit< tt) (pi_within p) in
    within_round 34 (lit< tt) (omega (arith, skin_reactance_least f-range.least k-range.least))
    (within_same (≃F_refl _ exact_part.below.left) scaled exact_part)

zero≤ : (k : Fraction) → 0 < k.den → whole 0 *F k ≤F 0 over tera
unfolding ◌*F◌
zero≤ k k>0 = record { left = omega arith; right = tera>0; across = omega arith }

pub skin_ratio_close :
    {π : Fraction} {f k r' : ℕ} → IsPi π → In 1000 6500 f → In 120 1000 k → 0 < r' →
    Close 66 1 (skin_ratio* π f k r') (skin_ratio f k r')
unfolding skin_ratio skin_ratio* ◌*F◌ reciprocal
skin_ratio_close {π} {f} {k} {r'} p f-range k-range r'>0 =
    let per : reciprocal (whole r') ≤F reciprocal (whole r') = ≤F_refl (1 over r') r'>0 in
    let same : whole (skin_reactance f k) /F whole r' ≃F skin_reactance f k * tera over r' * tera =
    record { left = omega arith; right = mul-pos r'>0 tera>0; across = omega arith }
    in
    round_up r'>0
    (rewrite_above same (zero≤ (reciprocal (whole r')) r'>0) (within_times per (skin_reactance_close p f-range k-range)))

pub skin_ratio_squared_close :
    {x : Fraction} {z : ℕ} → z ≤ skin_limit → Close 66 1 x z → Close 132 17 (square x) (skin_ratio_squared z)
unfolding skin_ratio_squared ◌+F◌ ◌*F◌
skin_ratio_squared_close {x} {z} z≤ p =
    let z≤8 : z over tera ≤F whole 8 = over_at_most 8 (omega arith) in
    let same : (z over tera) *F (z over tera) ≃F z * z over tera * tera = ≃F_refl _ (mul-pos tera>0 tera>0) in
    let errors : (1 over tera) *F whole 8 +F (1 over tera) *F whole 8 ≤F 16 over tera =
    record { left = omega (arith, mul-pos tera>0 tera>0); right = tera>0; across = omega arith }
    in
    round_up tera>0 (rewrite_above same errors (within_product (≤F_trans p.below z≤8) z≤8 p p))

pub factor_close : {x : Fraction} {w : ℕ} → Close 132 17 x w → Close 132 2 (factor* x) (factor w)
unfolding factor factor*
factor_close {w = w} p = round_up (omega (arith, tera>0)) (saturate_times 5 960 4 {d = 1} (lit< tt) (lit≤ tt) p)

pub skin_factor_close :
    {π : Fraction} {f k r' : ℕ} → IsPi π → In 1000 6500 f → In 120 1000 k → 0 < r' → skin_ratio f k r' ≤ skin_limit →
    Close 132 2 (skin_factor* π f k r') (skin_factor f k r')
unfolding skin_factor skin_factor*
skin_factor_close p f-range k-range r'>0 z≤ =
    factor_close (skin_ratio_squared_close z≤ (skin_ratio_close p f-range k-range r'>0))
