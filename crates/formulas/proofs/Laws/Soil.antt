-- Dry soil. Where ρ counts as 1000, which is where it is 0 or 1000, stages 9 and 10 and the permitted rise are as they were without it,
-- rounded and exact, so that one definition says both. And how large T4 and the permitted rise get. Assumes nothing.
use Rattle.std.specs.Prelude.{◌≡◌, refl, ℕ, ◌+◌, ◌-◌, ◌*◌, ◌^◌, ◌≤◌, ◌<◌}
use Rattle.std.proofs.Common.{◌∙◌, ap, arith, lit<, mul-le-mul, mul-pos}
use Rattle.exact.specs.Rounding.{up}
use Rattle.exact.proofs.Laws.Rounding.{up_scaled}
use Rattle.exact.specs.Fraction.{Fraction, whole, ◌+F◌, ◌*F◌, reciprocal, ◌/F◌, ◌≃F◌}
use Rattle.exact.proofs.Laws.Fraction.{+F-≃F}
use Rattle.formulas.specs.Soil.{soil_ratio, soil_resistance, permitted_rise}
use Rattle.formulas.specs.Dielectric.{dielectric_resistance, dielectric_rise, dielectric_rise*}
use Rattle.formulas.specs.Rating.{unit_rise, unit_rise*}
use Rattle.formulas.specs.Laws.Bounds.{most_t4, most_permitted_rise}
use Rattle.formulas.specs.Laws.Ranges.{In}

pub none_counts : soil_ratio 0 ≡ 1000
unfolding soil_ratio
none_counts = refl

pub one_counts : soil_ratio 1000 ≡ 1000
unfolding soil_ratio
one_counts = refl

module _ (ρ : ℕ) (none_dries : soil_ratio ρ ≡ 1000) where
  pub moist_resistance : (t4 : ℕ) → soil_resistance ρ t4 ≡ 1000 * t4
  unfolding soil_resistance
  moist_resistance t4 = ap (λ k. k * t4) none_dries

  pub moist_permitted : (rise isotherm_rise : ℕ) → permitted_rise ρ rise isotherm_rise ≡ 10 ^ 7 * rise
  unfolding permitted_rise
  moist_permitted rise isotherm_rise = rw none_dries (omega arith)

  pub moist_unit_rise :
      (n r s w t1 t2 t3 t4 : ℕ) →
      unit_rise n r s w t1 t2 t3 (soil_resistance ρ t4)
      ≡ up (r * t1) (10 ^ 6) + up (n * (r + s) * t2) (10 ^ 6) + up (n * (r + s + w) * (t3 + t4)) (10 ^ 6)
  unfolding unit_rise
  moist_unit_rise n r s w t1 t2 t3 t4 =
      let loss = n * (r + s + w) in
      let both : loss * (1000 * t3 + soil_resistance ρ t4) ≡ 1000 * (loss * (t3 + t4)) = rw (moist_resistance t4) (omega arith) in
      let last : up (loss * (1000 * t3 + soil_resistance ρ t4)) (10 ^ 9) ≡ up (loss * (t3 + t4)) (10 ^ 6) =
      ap (λ a. up a (10 ^ 9)) both ∙ up_scaled 1000 (loss * (t3 + t4)) {b = 10 ^ 6} (lit< tt) (lit< tt)
      in
      ap (λ part. up (r * t1) (10 ^ 6) + up (n * (r + s) * t2) (10 ^ 6) + part) last

  pub moist_dielectric_rise :
      (n wd t1 t2 t3 t4 : ℕ) →
      dielectric_rise n wd t1 t2 t3 (soil_resistance ρ t4) ≡ up (wd * (t1 + 2 * n * (t2 + t3 + t4))) (2 * 10 ^ 9)
  unfolding dielectric_rise dielectric_resistance
  moist_dielectric_rise n wd t1 t2 t3 t4 =
      let all = t1 + 2 * n * (t2 + t3 + t4) in
      let scaled : wd * (1000 * t1 + 2 * n * (1000 * (t2 + t3) + soil_resistance ρ t4)) ≡ 1000 * (wd * all) =
      rw (moist_resistance t4) (omega arith)
      in
      ap (λ a. up a (2 * 10 ^ 12)) scaled ∙ up_scaled 1000 (wd * all) {b = 2 * 10 ^ 9} (lit< tt) (lit< tt)

  -- the exact values likewise

  pub moist_unit_rise* :
      (n : ℕ) (r s w : Fraction) (t1 t2 t3 t4 : ℕ) → 0 < r.den → 0 < s.den → 0 < w.den →
      unit_rise* n r s w t1 t2 t3 (soil_resistance ρ t4)
      ≃F r *F whole t1 /F whole (10 ^ 6)
      +F whole n *F (r +F s) *F whole t2 /F whole (10 ^ 6)
      +F whole n *F (r +F s +F w) *F whole (t3 + t4) /F whole (10 ^ 6)
  unfolding unit_rise* ◌+F◌ ◌*F◌ reciprocal
  moist_unit_rise* n r s w t1 t2 t3 t4 dr ds dw =
      let loss = whole n *F (r +F s +F w) in
      let positive = mul-pos dr ds in
      let last : loss *F whole (1000 * t3 + soil_resistance ρ t4) /F whole (10 ^ 9) ≃F loss *F whole (t3 + t4) /F whole (10 ^ 6) =
      rw (moist_resistance t4)
      (record { left = omega (arith, mul-pos positive dw); right = omega (arith, mul-pos positive dw); across = omega arith })
      in
      +F-≃F _ (omega (arith, mul-pos dr positive)) last

  pub moist_dielectric_rise* :
      (n : ℕ) (wd : Fraction) (t1 t2 t3 t4 : ℕ) → 0 < wd.den →
      dielectric_rise* n wd t1 t2 t3 (soil_resistance ρ t4) ≃F wd *F whole (t1 + 2 * n * (t2 + t3 + t4)) /F whole (2 * 10 ^ 9)
  unfolding dielectric_rise* dielectric_resistance ◌*F◌ reciprocal
  moist_dielectric_rise* n wd t1 t2 t3 t4 dwd =
      rw (moist_resistance t4) (record { left = omega arith; right = omega arith; across = omega arith })

-- How large they get.

pub soil_resistance_range :
    (ρ : ℕ) {t4 : ℕ} → In 1000 5000 (soil_ratio ρ) → In 10000 20000000 t4 → In 10000000 most_t4 (soil_resistance ρ t4)
unfolding soil_resistance
soil_resistance_range ρ ratio range =
    record { least = mul-le-mul ratio.least range.least; most = mul-le-mul ratio.most range.most }

pub permitted_rise_range :
    (ρ : ℕ) {rise isotherm_rise : ℕ} → In 1000 5000 (soil_ratio ρ) → In 500 29000 rise → isotherm_rise ≤ 29000 →
    In 5000000000 most_permitted_rise (permitted_rise ρ rise isotherm_rise)
unfolding permitted_rise
permitted_rise_range ρ ratio range isotherm≤ =
    let more : 10 ^ 4 * (soil_ratio ρ - 1000) ≤ 40000000 = omega (arith, ratio.most) in
    record { least = omega (arith, range.least); most = omega (arith, range.most, mul-le-mul more isotherm≤) }
