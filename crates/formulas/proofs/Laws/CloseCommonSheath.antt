-- Stage 7's eddies in one sheath around three cores against their exact values: S of arrangement 6 is within 196 parts in 10^12 and 19
-- units of 10^-16 Ω/m by the first formula, and within 80 parts and 2 units by the second. y is rounded down, since a smaller one makes a
-- larger loss. Assumes nothing.
use Rattle.std.specs.Prelude.{cond, ℕ, ◌+◌, ◌*◌, ◌^◌, ◌≤◌, ◌<◌}
use Rattle.std.proofs.Common.{le_refl, mul-pos, mul-le-mul, arith, lit<, lit≤}
use Rattle.bools.proofs.Laws.Tests.{by_outcome}
use Rattle.exact.specs.Rounding.{up}
use Rattle.exact.specs.Fraction.{Fraction, ◌over◌, whole, ◌+F◌, ◌*F◌, reciprocal, ◌/F◌, square, ◌≤F◌, ◌≃F◌}
use Rattle.exact.proofs.Laws.Fraction.{closed≤, whole_mono, ≃F_refl, ≤F_refl}
use Rattle.exact.specs.Error.{Within}
use Rattle.exact.proofs.Laws.Error.{within_weaken, within_same, within_times, within_product, within_scale, within_relative_product}
use Rattle.exact.proofs.Laws.RoundingError.{within_up_after}
use Rattle.exact.specs.Trillion.{trillion}
use Rattle.formulas.specs.Constants.{tera, IsPi}
use Rattle.formulas.specs.Reactance.{reactance, reactance*}
use Rattle.formulas.specs.CommonSheath.{
  first_formula_limit,
  is_first,
  axis_ratio,
  axis_ratio_squared,
  common_ratio,
  common_ratio_squared,
  first_formula,
  second_formula,
  common_loss,
  axis_ratio*,
  common_ratio*,
  first_formula*,
  second_formula*,
  common_loss*,
}
use Rattle.formulas.specs.Laws.Ranges.{In}
use Rattle.formulas.proofs.Laws.Ranges.{reactance_range, is_first_most, is_second, axis_ratio_most, axis_ratio_squared_most}
use Rattle.formulas.specs.Laws.Bounds.{least_sheath_resistance}
use Rattle.formulas.proofs.Laws.LogRange.{tera>0}
use Rattle.formulas.proofs.Laws.CloseReactance.{reactance_close}
use Rattle.formulas.proofs.Laws.CloseInverse.{over_reactance_close, inverse_close, inverse_close_times, inverse_most}
use Rattle.formulas.proofs.Laws.OverT.{Close, over_at_most, round_up, quotient_close, sum_close, product_close}

-- b and b2.

axis_ratio_close : (c : ℕ) {d : ℕ} → 0 < d → Close 0 1 (axis_ratio* c d) (axis_ratio c d)
unfolding axis_ratio axis_ratio*
axis_ratio_close c d>0 = quotient_close (4 * (c * c)) (mul-pos d>0 d>0)

pub axis_ratio*_most : (c : ℕ) {d : ℕ} → 0 < d → 2 * c ≤ d → axis_ratio* c d ≤F whole 1
unfolding axis_ratio*
axis_ratio*_most c d>0 c≤ = record { left = mul-pos d>0 d>0; right = lit< tt; across = omega (arith, mul-le-mul c≤ c≤) }

axis_ratio_squared_close : {b : ℕ} {b* : Fraction} → b ≤ trillion → Close 0 1 b* b → Close 0 3 (square b*) (axis_ratio_squared b)
unfolding axis_ratio_squared
axis_ratio_squared_close b≤ p = round_up tera>0 (product_close b≤ b≤ p p)

-- y, and what the two terms divide by.

common_ratio_close :
    {π : Fraction} {f rs : ℕ} → IsPi π → In 1000 6500 f → least_sheath_resistance ≤ rs →
    Within 96 (whole 0) (common_ratio rs (reactance f) over tera) (common_ratio* rs (reactance* π f))
unfolding common_ratio common_ratio* tera ◌*F◌
common_ratio_close {π} {f} {rs} pi range rs≥ =
    let large : trillion * reactance f ≤ 56 * (2 * rs * 10 ^ 12) = omega (arith, (reactance_range range).most) in
    let close = over_reactance_close 56 (2 * rs * 10 ^ 12) pi range large in
    within_same (≃F_refl _ (lit< tt))
    (record { left = close.below.right; right = omega (arith, close.below.right); across = omega arith })
    close

-- The first formula: a term b/(1 + x), where T/(T + k) is not below 1/(1 + x); and 3 Rs times the sum of two.

term_close :
    (k : ℕ) (x : Fraction) {r c b : ℕ} {b* : Fraction} → 0 < x.den → b ≤ trillion → Close 0 c b* b →
    Within r (whole 0) (reciprocal (whole 1 +F x)) (tera over tera + k) →
    Close r (c + 1) (b* /F (whole 1 +F x)) (up (b * tera) (tera + k))
unfolding ◌+F◌ ◌*F◌
term_close k x {r} {c} {b} x>0 b≤ p q =
    let all = within_product (inverse_most x x>0) (over_at_most 1 (omega arith)) p q in
    let same : (b over tera) *F (tera over tera + k) ≃F b * tera over (tera + k) * tera =
    record { left = all.below.right; right = omega (arith, all.below.right); across = omega arith }
    in
    let units : (c over tera) *F whole 1 +F whole 0 *F whole 1 ≤F c over tera =
    record { left = omega (arith, tera>0); right = tera>0; across = omega arith }
    in
    round_up (omega (arith, tera>0)) (within_weaken (omega arith) units (within_same (≃F_refl _ all.below.left) same all))

-- six units of 10^-12 of three times 100 µΩ/m, and one rounding
first_units : (6 over tera) *F whole (3 * first_formula_limit) +F whole 1 ≤F whole 19
unfolding ◌+F◌ ◌*F◌ tera
first_units = closed≤ tt

three_sheaths :
    (rs : ℕ) {r n : ℕ} {x : Fraction} → rs ≤ first_formula_limit → Close r 6 x n →
    Within r (whole 19) (whole (3 * rs) *F x) (whole (up (3 * rs * n) tera))
unfolding ◌*F◌
three_sheaths rs {r} {n} {x} rs≤ p =
    let at_most : whole (3 * rs) ≤F whole (3 * first_formula_limit) = whole_mono (omega arith) in
    let times = within_times at_most p in
    within_weaken (le_refl r) first_units
    (within_up_after tera>0
    (within_same
    (record { left = times.below.left; right = omega (arith, times.below.left); across = omega arith })
    (record { left = times.below.right; right = tera>0; across = omega arith })
    times))

first_close :
    {π : Fraction} {f rs b : ℕ} {b* : Fraction} → IsPi π → In 1000 6500 f → In least_sheath_resistance first_formula_limit rs →
    b ≤ trillion →
    Close 0 1 b* b → Within 196 (whole 19) (first_formula* (reactance* π f) rs b*) (whole (first_formula (reactance f) rs b))
unfolding first_formula first_formula* common_ratio_squared ◌*F◌
first_close {π} {f} {rs} {b} {b*} pi range rs-in b≤ p =
    let y = common_ratio rs (reactance f) in
    let y* = common_ratio* rs (reactance* π f) in
    let y_close = common_ratio_close pi range rs-in.least in
    let y*>0 : 0 < y*.den * y*.den = mul-pos y_close.below.right y_close.below.right in
    let first = term_close _ (square y*) y*>0 b≤ p (inverse_close 96 y y_close) in
    let second =
    term_close _ (whole 4 *F square y*) (omega arith) (axis_ratio_squared_most b≤) (axis_ratio_squared_close b≤ p)
    (inverse_close_times 4 96 y y_close)
    in
    three_sheaths rs rs-in.most (sum_close (within_weaken (lit≤ tt) (≤F_refl _ tera>0) first) second)

-- The second formula.

-- 0.8 B²/Rs is below T where Rs is above 100 µΩ/m, so that the unit of b is one unit at most; and one rounding
second_units : whole 0 *F whole 1 +F (1 over tera) *F whole trillion +F whole 1 ≤F whole 2
unfolding ◌+F◌ ◌*F◌ tera
second_units = closed≤ tt

second_close :
    {π : Fraction} {f rs b : ℕ} {b* : Fraction} → IsPi π → In 1000 6500 f → first_formula_limit < rs → b* ≤F whole 1 →
    Close 0 1 b* b → Within 80 (whole 2) (second_formula* (reactance* π f) rs b*) (whole (second_formula (reactance f) rs b))
unfolding second_formula second_formula* ◌*F◌ reciprocal
second_close {π} {f} {rs} {b} pi range rs> b*≤ p =
    let B = reactance f in
    let B_close = reactance_close pi range in
    let share = within_scale (4 over 5) (lit< tt) (within_relative_product B_close B_close) in
    let leading = within_scale (1 over rs) (omega arith) share in
    let lower : (1 over rs) *F ((4 over 5) *F square (reactance* π f)) ≃F (4 over 5) *F square (reactance* π f) /F whole rs =
    record { left = leading.below.left; right = omega (arith, leading.below.left); across = omega arith }
    in
    let upper : (1 over rs) *F ((4 over 5) *F (whole B *F whole B)) ≃F 4 * (B * B) over 5 * rs =
    record { left = omega arith; right = omega arith; across = omega arith }
    in
    let most : 4 * (B * B) over 5 * rs ≤F whole trillion =
    let B≤ = (reactance_range range).most in
    record { left = omega arith; right = lit< tt; across = omega (arith, mul-le-mul B≤ B≤) }
    in
    let all = within_product b*≤ most (within_same lower upper leading) p in
    within_weaken (lit≤ tt) second_units
    (within_up_after (omega (arith, tera>0, rs>))
    (within_same (≃F_refl _ all.below.left)
    (record { left = all.below.right; right = omega (arith, all.below.right); across = omega arith })
    all))

pub common_close :
    (c : ℕ) {π : Fraction} {f rs d : ℕ} → IsPi π → In 1000 6500 f → least_sheath_resistance ≤ rs → 0 < d → 2 * c ≤ d →
    Within 196 (whole 19) (common_loss* (reactance* π f) rs c d) (whole (common_loss (reactance f) rs c d))
unfolding common_loss common_loss*
common_close c {π} {f} {rs} {d} pi range rs≥ d>0 c≤ =
    let b = axis_ratio c d in
    let b* = axis_ratio* c d in
    let b_close = axis_ratio_close c d>0 in
    by_outcome
    (λ first.
    Within 196 (whole 19)
    (cond first (first_formula* (reactance* π f) rs b*) (second_formula* (reactance* π f) rs b*))
    (whole (cond first (first_formula (reactance f) rs b) (second_formula (reactance f) rs b))))
    (is_first rs)
    (λ first. first_close pi range (record { least = rs≥; most = is_first_most rs first }) (axis_ratio_most c d>0 c≤) b_close)
    (λ second.
    within_weaken (lit≤ tt) (whole_mono (lit≤ tt))
    (second_close pi range (is_second rs second) (axis_ratio*_most c d>0 c≤) b_close))
