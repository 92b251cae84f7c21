-- Stage 7 against its exact values: from an X within 200 parts in 10^12, S of the arrangements 1, 2 and 5 is within 9800 parts and
-- 613 units of 10^-16 Ω/m. v is at least 0.0002, so its rounding is a relative error; the later ones are units. Assumes nothing.
use Rattle.std.specs.Prelude.{ℕ, ◌+◌, ◌*◌, ◌≤◌, ◌<◌}
use Rattle.std.proofs.Common.{mul-pos, mul-le-mul_right, le_refl, arith, lit<, lit≤}
use Rattle.exact.specs.Rounding.{up, down}
use Rattle.exact.proofs.Laws.Rounding.{up_least_below}
use Rattle.exact.specs.Fraction.{Fraction, ◌over◌, whole, ◌+F◌, ◌*F◌, reciprocal, ◌/F◌, square, ◌≤F◌}
use Rattle.exact.proofs.Laws.Fraction.{closed≤, ≤F_refl}
use Rattle.exact.specs.Error.{parts, Within}
use Rattle.exact.proofs.Laws.Error.{within_weaken, within_trans, within_same, within_scale, within_times, within_relative_product}
use Rattle.exact.proofs.Laws.Error.{within_saturate}
use Rattle.exact.proofs.Laws.RoundingError.{within_up_after, within_up_over, within_round_over}
use Rattle.exact.specs.Trillion.{trillion}
use Rattle.formulas.specs.Constants.{tera}
use Rattle.formulas.specs.Sheath.{
  bond_ratio,
  bond_ratio_squared,
  circulating_loss,
  three_halves,
  sl_loss,
  bond_ratio*,
  circulating_loss*,
  sl_loss*,
}
use Rattle.formulas.specs.Laws.Ranges.{In}
use Rattle.formulas.proofs.Laws.LogRange.{tera>0}
use Rattle.formulas.specs.Laws.Bounds.{least_sheath_resistance, most_resistance, least_sheath_reactance}

-- The steps that both kinds of loss share: a ratio over T, its square, and u/(1 + u).

pub ratio_close :
    (s : ℕ) {r x k : ℕ} {x* : Fraction} → 0 < k → trillion ≤ s * up (x * tera) k → Within r (whole 0) x* (whole x) →
    Within (r + s) (whole 0) (x* /F whole k) (up (x * tera) k over tera)
unfolding ◌*F◌ reciprocal
ratio_close s {x = x} {k} {x*} k>0 large p =
    within_round_over s k>0 tera>0 large
    (within_same
    (record { left = mul-pos k>0 p.below.left; right = mul-pos p.below.left k>0; across = omega arith })
    (record { left = omega arith; right = mul-pos k>0 tera>0; across = omega arith })
    (within_scale (1 over k) k>0 p))

pub zero_and : {t : ℕ} → 0 < t → whole 0 +F (1 over t) ≤F 1 over t
unfolding ◌+F◌
zero_and t>0 = record { left = omega arith; right = t>0; across = omega arith }

pub square_close :
    {r v : ℕ} {x : Fraction} → Within r (whole 0) x (v over tera) →
    Within (r + r) (1 over tera) (square x) (up (v * v) tera over tera)
unfolding ◌*F◌
square_close p = within_weaken (le_refl _) (zero_and tera>0) (within_up_over tera>0 tera>0 (within_relative_product p p))

pub saturate_close :
    {r u : ℕ} {x : Fraction} → Within r (1 over tera) x (u over tera) →
    Within r (1 over tera) (x /F (whole 1 +F x)) (u over tera + u)
unfolding ◌+F◌ ◌*F◌ reciprocal
saturate_close {r} {u} {x} p =
    let x>0 = p.below.left in
    let one≤one = ≤F_refl (whole 1) (lit< tt) in
    within_weaken (le_refl r) (record { left = omega (arith, tera>0); right = tera>0; across = omega arith })
    (within_same
    (record {
      left = mul-pos x>0 (omega arith);
      right = mul-pos x>0 (omega arith);
      across = omega arith;
    })
    (record {
      left = mul-pos tera>0 (omega (arith, tera>0));
      right = omega (arith, tera>0);
      across = omega arith;
    })
    (within_saturate (lit< tt) one≤one one≤one p))

-- v, v2 and S in the arrangements 1, 2 and 5.

pub bond_ratio_least : {X rs : ℕ} → least_sheath_reactance ≤ X → In least_sheath_resistance most_resistance rs → 213000000 ≤ bond_ratio X rs
unfolding bond_ratio tera
bond_ratio_least X≥ rs-range = up_least_below _ _ (omega (arith, rs-range.least)) (omega (arith, rs-range.most))

pub bond_ratio_close :
    {X rs : ℕ} {X* : Fraction} → least_sheath_reactance ≤ X → In least_sheath_resistance most_resistance rs →
    Within 200 (whole 0) X* (whole X) →
    Within 4900 (whole 0) (bond_ratio* X* rs) (bond_ratio X rs over tera)
unfolding bond_ratio bond_ratio*
bond_ratio_close X≥ rs-range p =
    ratio_close 4700 (omega (arith, rs-range.least)) (omega (arith, bond_ratio_least X≥ rs-range)) p

-- v2 is not below v²/T, and less than 1 above it: proved from the definition like `sheath_reactance_low_rounds`
bond_ratio_squared_above : (v : ℕ) → v * v ≤ bond_ratio_squared v * tera
unfolding bond_ratio_squared tera up down
bond_ratio_squared_above v = omega arith

bond_ratio_squared_next : (v : ℕ) → bond_ratio_squared v * tera ≤ v * v + tera
unfolding bond_ratio_squared tera up down
bond_ratio_squared_next v = omega arith

bond_ratio_squared_rounds : (v : ℕ) → Within 0 (1 over tera) (square (v over tera)) (bond_ratio_squared v over tera)
unfolding parts ◌+F◌ ◌*F◌
bond_ratio_squared_rounds v =
    let square>0 = mul-pos tera>0 tera>0 in
    record {
      below = record { left = square>0; right = tera>0; across = omega (arith, mul-le-mul_right tera (bond_ratio_squared_above v)) };
      close =
          record {
            left = tera>0;
            right = mul-pos square>0 (mul-pos (mul-pos (lit< tt) tera>0) tera>0);
            across = omega (arith, mul-le-mul_right (tera * tera * tera) (bond_ratio_squared_next v));
          };
    }

pub bond_ratio_squared_close :
    {X rs : ℕ} {X* : Fraction} → least_sheath_reactance ≤ X → In least_sheath_resistance most_resistance rs →
    Within 200 (whole 0) X* (whole X) →
    Within 9800 (1 over tera) (square (bond_ratio* X* rs)) (bond_ratio_squared (bond_ratio X rs) over tera)
bond_ratio_squared_close {X} {rs} X≥ rs-range p =
    let v_close = bond_ratio_close X≥ rs-range p in
    within_weaken (lit≤ tt) (zero_and tera>0)
    (within_trans (within_relative_product v_close v_close) (bond_ratio_squared_rounds (bond_ratio X rs)))

-- 1/T of the largest Rs, and one rounding
unit_of_most : (1 over tera) *F whole most_resistance +F whole 1 ≤F whole 408
unfolding ◌+F◌ ◌*F◌ tera
unit_of_most = closed≤ tt

loss_close :
    {r v2 rs : ℕ} {u : Fraction} → rs ≤ most_resistance → Within r (1 over tera) u (v2 over tera) →
    Within r (whole 408) (whole rs *F u /F (whole 1 +F u)) (whole (up (rs * v2) (tera + v2)))
unfolding ◌*F◌
loss_close {r} {v2} {rs} rs≤ p =
    let at_most : whole rs ≤F whole most_resistance = record { left = lit< tt; right = lit< tt; across = omega arith } in
    let times_rs = within_times at_most (saturate_close p) in
    within_weaken (le_refl r) unit_of_most
    (within_up_after (omega (arith, tera>0))
    (within_same
    (record { left = times_rs.below.left; right = omega (arith, times_rs.below.left); across = omega arith })
    (record { left = times_rs.below.right; right = omega (arith, tera>0); across = omega arith })
    times_rs))

pub circulating_close :
    {X rs : ℕ} {X* : Fraction} → least_sheath_reactance ≤ X → In least_sheath_resistance most_resistance rs →
    Within 200 (whole 0) X* (whole X) →
    Within 9800 (whole 408) (circulating_loss* X* rs) (whole (circulating_loss X rs))
unfolding circulating_loss circulating_loss*
circulating_close X≥ rs-range p = loss_close rs-range.most (bond_ratio_squared_close X≥ rs-range p)

three_halves_of : whole 408 *F (3 over 2) +F whole 1 ≤F whole 613
unfolding ◌+F◌ ◌*F◌
three_halves_of = closed≤ tt

pub sl_close :
    {X rs : ℕ} {X* : Fraction} → least_sheath_reactance ≤ X → In least_sheath_resistance most_resistance rs →
    Within 200 (whole 0) X* (whole X) →
    Within 9800 (whole 613) (sl_loss* X* rs) (whole (sl_loss X rs))
unfolding sl_loss sl_loss* three_halves ◌*F◌
sl_close {X} {rs} {X*} X≥ rs-range p =
    let more = within_times (≤F_refl (3 over 2) (lit< tt)) (circulating_close X≥ rs-range p) in
    within_weaken (le_refl 9800) three_halves_of
    (within_up_after (lit< tt)
    (within_same
    (record { left = more.below.left; right = omega (arith, more.below.left); across = omega arith })
    (record { left = lit< tt; right = lit< tt; across = omega arith })
    more))
