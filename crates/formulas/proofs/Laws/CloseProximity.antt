-- Stage 4 against its exact values: u, h, g and yp within 132 parts in 10^12 and a few units of 10^-12, and the a.c. resistance R,
-- whose factor is at least 1 and takes those units in, within 178 parts in 10^12. Assumes nothing.
use Rattle.std.specs.Prelude.{ℕ, ◌+◌, ◌*◌, ◌^◌, ◌≤◌, ◌<◌}
use Rattle.std.proofs.Common.{mul-pos, arith, lit<, lit≤}
use Rattle.exact.specs.Fraction.{Fraction, ◌over◌, whole, ◌+F◌, ◌*F◌, ◌≤F◌, ◌≃F◌}
use Rattle.exact.proofs.Laws.Fraction.{closed≤, ≃F_refl, ≤F_refl, +F_comm, *F_comm, *F_assoc}
use Rattle.exact.specs.Error.{Within}
use Rattle.exact.proofs.Laws.Error.{within_refl, within_weaken, within_same, within_times, within_scale}
use Rattle.exact.proofs.Laws.RoundingError.{within_round}
use Rattle.exact.specs.Trillion.{trillion}
use Rattle.formulas.specs.Constants.{tera, IsPi}
use Rattle.formulas.specs.Skin.{skin_ratio, skin_factor, skin_factor*}
use Rattle.formulas.specs.Proximity.{
  spacing_ratio,
  proximity_h,
  proximity_g,
  proximity_factor,
  ac_resistance,
  spacing_ratio*,
  proximity_h*,
  proximity_g*,
  proximity_factor*,
  ac_resistance*,
}
use Rattle.formulas.specs.Laws.Ranges.{In}
use Rattle.formulas.proofs.Laws.Ranges.{skin_ratio_squared_most, factor_most, spacing_ratio_most, proximity_h_most, proximity_g_most}
use Rattle.formulas.proofs.Laws.Ranges.{proximity_factor_most, ac_resistance_range}
use Rattle.formulas.proofs.Laws.OverT.{Close, rewrite_above, round_up, saturate_times, no_units, quotient_close, sum_close}
use Rattle.formulas.proofs.Laws.OverT.{product_close, units_absorb}
use Rattle.formulas.proofs.Laws.CloseSkin.{skin_factor_close}
use Rattle.formulas.proofs.Laws.LogRange.{tera>0}
use Rattle.formulas.specs.Laws.Bounds.{least_conductor_resistance, most_resistance, most_skin_factor, most_proximity_factor}
use Rattle.formulas.specs.Refusals.{skin_limit}

-- The proximity effect.

pub spacing_ratio_close : (dc : ℕ) {s : ℕ} → 0 < s → Close 0 1 (spacing_ratio* dc s) (spacing_ratio dc s)
unfolding spacing_ratio spacing_ratio*
spacing_ratio_close dc s>0 = quotient_close (dc * dc) (mul-pos s>0 s>0)

pub proximity_h_close : {x : Fraction} {G : ℕ} → Close 132 2 x G → Close 132 10 (proximity_h* x) (proximity_h G)
unfolding proximity_h proximity_h*
proximity_h_close {x} {G} p =
    let bottom>0 : 0 < 100 * G + 27 * tera = omega (arith, tera>0) in
    let same : 118 * G * tera over (27 * tera + 100 * G) * tera ≃F 118 * G * tera over (100 * G + 27 * tera) * tera =
    record { left = mul-pos (omega arith) tera>0; right = mul-pos bottom>0 tera>0; across = omega arith }
    in
    rw (+F_comm (whole 100 *F x) (whole 27))
    (round_up bottom>0 (rewrite_above same (≤F_refl _ tera>0) (saturate_times 118 27 100 {d = 9} (lit< tt) (lit≤ tt) p)))

pub proximity_g_close :
    {x y : Fraction} {u G : ℕ} → u ≤ trillion → G ≤ most_skin_factor → Close 0 1 x u → Close 132 2 y G →
    Close 132 4 (proximity_g* x y) (proximity_g u G)
unfolding proximity_g proximity_g* tera ◌*F◌
proximity_g_close {x} {y} {u} {G} u≤ G≤ p q =
    let k = 312 over 1000 in
    let product : Within 132 (3 over tera) (x *F y) (u * G over tera * tera) = product_close u≤ (omega arith) p q in
    let same : (u * G over tera * tera) *F k ≃F 312 * u * G over 10 ^ 15 * tera =
    record { left = lit< tt; right = lit< tt; across = omega arith }
    in
    let errors : (3 over tera) *F k ≤F 3 over tera = closed≤ tt in
    let scaled : Within 132 (3 over tera) (x *F y *F k) (312 * u * G over 10 ^ 15 * tera) =
    rewrite_above same errors (within_times (≤F_refl k (lit< tt)) product)
    in
    round_up {c = 3} (lit< tt) (rw (*F_assoc k x y, *F_comm k (x *F y)) scaled)

pub proximity_factor_close :
    {x y : Fraction} {u G : ℕ} → u ≤ trillion → G ≤ most_skin_factor → Close 0 1 x u → Close 132 2 y G →
    Close 132 16 (proximity_factor* x y) (proximity_factor u G)
unfolding proximity_factor proximity_factor*
proximity_factor_close {u = u} {G} u≤ G≤ p q =
    let sum≤ : proximity_g u G + proximity_h G ≤ trillion = omega (arith, proximity_g_most u≤ G≤, proximity_h_most G≤) in
    round_up tera>0 (product_close u≤ sum≤ p (sum_close (proximity_g_close u≤ G≤ p q) (proximity_h_close q)))

-- The a.c. resistance.

one_close : Close 132 0 (whole 1) tera
one_close =
    let same : whole 1 ≃F tera over tera = record { left = lit< tt; right = tera>0; across = omega arith } in
    rewrite_above same no_units (within_weaken (lit≤ tt) (≤F_refl (whole 0) (lit< tt)) (within_refl (≤F_refl (whole 1) (lit< tt))))

pub ac_resistance_close :
    {r' ys yp : ℕ} {x y : Fraction} → In least_conductor_resistance most_resistance r' → ys ≤ most_skin_factor →
    yp ≤ most_proximity_factor →
    Close 132 2 x ys → Close 132 16 y yp → Within 178 (whole 0) (ac_resistance* r' x y) (whole (ac_resistance r' ys yp))
unfolding ac_resistance ac_resistance* ◌*F◌
ac_resistance_close {r'} {ys} {yp} r'-range ys≤ yp≤ p q =
    let total : Within 150 (whole 0) (whole 1 +F _ +F _) (tera + ys + yp over tera) =
    units_absorb (omega arith) (sum_close (sum_close one_close p) q)
    in
    let scaled = within_scale (whole r') (lit< tt) total in
    let same : whole r' *F (tera + ys + yp over tera) ≃F r' * (tera + ys + yp) over tera =
    record { left = omega (arith, tera>0); right = tera>0; across = omega arith }
    in
    within_round 28 tera>0 (omega (arith, ac_resistance_range r'-range ys≤ yp≤))
    (within_same (≃F_refl _ scaled.below.left) same scaled)

-- The limit on z bounds ys and G, and the errors of all steps come together.

skin_factor_most : (f k r' : ℕ) → skin_ratio f k r' ≤ skin_limit → skin_factor f k r' ≤ most_skin_factor
unfolding skin_factor
skin_factor_most f k r' z≤ = factor_most (skin_ratio_squared_most z≤)

module _
    {π : Fraction} {f ks kp r' dc s : ℕ}
    (p : IsPi π) (f-range : In 1000 6500 f) (ks_range : In 120 1000 ks) (kp_range : In 120 1000 kp)
    (r'-range : In least_conductor_resistance most_resistance r')
    (zs≤ : skin_ratio f ks r' ≤ skin_limit) (zp≤ : skin_ratio f kp r' ≤ skin_limit)
    (s>0 : 0 < s) (dc≤s : dc ≤ s) where
  r'>0 : 0 < r'
  r'>0 = omega (arith, r'-range.least)

  pub resistance_within :
      Within 178 (whole 0)
      (ac_resistance* r' (skin_factor* π f ks r') (proximity_factor* (spacing_ratio* dc s) (skin_factor* π f kp r')))
      (whole (ac_resistance r' (skin_factor f ks r') (proximity_factor (spacing_ratio dc s) (skin_factor f kp r'))))
  resistance_within =
      let u≤ = spacing_ratio_most s>0 dc≤s in
      let G≤ = skin_factor_most f kp r' zp≤ in
      ac_resistance_close r'-range (skin_factor_most f ks r' zs≤) (proximity_factor_most u≤ G≤)
      (skin_factor_close p f-range ks_range r'>0 zs≤)
      (proximity_factor_close u≤ G≤ (spacing_ratio_close dc s>0) (skin_factor_close p f-range kp_range r'>0 zp≤))

  pub resistance_close :
      Within 1000 (whole 0)
      (ac_resistance* r' (skin_factor* π f ks r') (proximity_factor* (spacing_ratio* dc s) (skin_factor* π f kp r')))
      (whole (ac_resistance r' (skin_factor f ks r') (proximity_factor (spacing_ratio dc s) (skin_factor f kp r'))))
  resistance_close = within_weaken (lit≤ tt) (≤F_refl (whole 0) (lit< tt)) resistance_within
