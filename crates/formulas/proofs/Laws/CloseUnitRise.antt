-- Stage 10's E against its exact value, from how close R, S and W are: within 160000 parts in 10^12. The absolute errors of S and W
-- are small against R, and the three roundings against E. Assumes nothing.
use Rattle.std.specs.Prelude.{ℕ, ◌+◌, ◌*◌, ◌^◌, ◌≤◌, ◌<◌}
use Rattle.std.proofs.Common.{le_trans, le-add_left, arith, lit<, lit≤}
use Rattle.std.proofs.Math.Nat.{mul-le-mul, mul-le-mul_right}
use Rattle.exact.specs.Rounding.{up}
use Rattle.exact.proofs.Laws.Rounding.{up_least_below}
use Rattle.exact.specs.Fraction.{Fraction, ◌over◌, whole, ◌+F◌, ◌*F◌, reciprocal, ◌/F◌}
use Rattle.exact.proofs.Laws.Fraction.{closed≤, ≃F_refl, ≤F_refl, *F_comm, whole-+F, whole-*F}
use Rattle.exact.specs.Error.{parts, Within}
use Rattle.exact.proofs.Laws.Error.{within_weaken, within_trans, within_absorb, within_sum, within_scale, within_same}
use Rattle.exact.proofs.Laws.RoundingError.{within_up}
use Rattle.exact.specs.Trillion.{trillion}
use Rattle.formulas.specs.Rating.{unit_rise, unit_rise*}
use Rattle.formulas.specs.Laws.Bounds.{least_conductor_resistance, least_unit_rise}

-- the rise across one thermal resistance t, of which u are 1 K·m/W
part_close :
    {q : ℕ} {x* : Fraction} (x t u : ℕ) → 0 < u → Within q (whole 0) x* (whole x) →
    Within q (whole 1) (x* *F whole t /F whole u) (whole (up (x * t) u))
unfolding ◌*F◌ ◌+F◌ reciprocal
part_close {q} {x*} x t u u>0 p =
    let through : Within q (whole 0) (x* *F whole t) (whole x *F whole t) =
    rw (*F_comm x* (whole t), *F_comm (whole x) (whole t)) (within_scale (whole t) (lit< tt) p)
    in
    let divided : Within q (whole 0) (x* *F whole t /F whole u) (whole x *F whole t /F whole u) =
    rw (*F_comm (x* *F whole t) (reciprocal (whole u)), *F_comm (whole x *F whole t) (reciprocal (whole u)))
    (within_scale (reciprocal (whole u)) u>0 through)
    in
    let exact : Within q (whole 0) (x* *F whole t /F whole u) (x * t over u) =
    within_same (≃F_refl _ divided.below.left) (record { left = omega arith; right = u>0; across = omega arith }) divided
    in
    within_weaken (omega arith) (closed≤ tt) (within_trans exact (within_up (x * t) u>0))

-- sums and multiples of whole numbers, with whole errors

sum_close :
    {q c d x y : ℕ} {x* y* : Fraction} → Within q (whole c) x* (whole x) → Within q (whole d) y* (whole y) →
    Within q (whole (c + d)) (x* +F y*) (whole (x + y))
sum_close {c = c} {d} {x} {y} p q = rw (← whole-+F c d, ← whole-+F x y) (within_sum p q)

times_close : {q x : ℕ} {x* : Fraction} (n : ℕ) → Within q (whole 0) x* (whole x) → Within q (whole 0) (whole n *F x*) (whole (n * x))
times_close {x = x} n p = rw (← whole-*F n x) (within_scale (whole n) (lit< tt) p)

absorb_close :
    {q c y : ℕ} {x : Fraction} (s : ℕ) → c * trillion ≤ s * y → Within q (whole c) x (whole y) → Within (q + s) (whole 0) x (whole y)
unfolding parts ◌*F◌
absorb_close s small p = within_absorb s (record { left = lit< tt; right = lit< tt; across = omega arith }) p

module _
    {r* s* w* : Fraction} {r s w : ℕ}
    (r_close : Within 40000 (whole 0) r* (whole r))
    (s_close : Within 40000 (whole 2000) s* (whole s))
    (w_close : Within 40000 (whole 2000) w* (whole w))
    (r≥ : least_conductor_resistance ≤ r) where
  conductor_sheath : Within 95000 (whole 0) (r* +F s*) (whole (r + s))
  conductor_sheath = absorb_close 55000 (omega arith) (sum_close r_close s_close)

  all_three : Within 150000 (whole 0) (r* +F s* +F w*) (whole (r + s + w))
  all_three = absorb_close 110000 (omega arith) (sum_close (sum_close r_close s_close) w_close)

  pub unit_rise_close :
      (n t1 t2 t3 t4 : ℕ) → 0 < n → 1000 ≤ t1 → 10000000 ≤ t4 →
      Within 160000 (whole 0) (unit_rise* n r* s* w* t1 t2 t3 t4) (whole (unit_rise n r s w t1 t2 t3 t4))
  unfolding unit_rise unit_rise*
  unit_rise_close n t1 t2 t3 t4 n>0 t1≥ t4≥ =
      let one≤one = ≤F_refl (whole 1) (lit< tt) in
      let first = within_weaken (lit≤ {m = 40000} {n = 150000} tt) one≤one (part_close r t1 (10 ^ 6) (lit< tt) r_close) in
      let second =
      within_weaken (lit≤ {m = 95000} {n = 150000} tt) one≤one
      (part_close (n * (r + s)) t2 (10 ^ 6) (lit< tt) (times_close n conductor_sheath))
      in
      let third = part_close (n * (r + s + w)) (1000 * t3 + t4) (10 ^ 9) (lit< tt) (times_close n all_three) in
      let inner : least_unit_rise ≤ up (r * t1) (10 ^ 6) = up_least_below _ _ (lit< tt) (omega (arith, mul-le-mul r≥ t1≥)) in
      let losses : least_conductor_resistance ≤ n * (r + s + w) = omega (arith, mul-le-mul_right (r + s + w) n>0) in
      let outer : 365000000 ≤ up (n * (r + s + w) * (1000 * t3 + t4)) (10 ^ 9) =
      up_least_below _ _ (lit< tt) (omega (arith, mul-le-mul losses (le_trans t4≥ (le-add_left t4 (1000 * t3)))))
      in
      absorb_close 10000 (omega arith) (sum_close (sum_close first second) third)
