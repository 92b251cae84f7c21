-- How large the stages' numbers get within the limits of the fields: what the code of the stages needs so that each product and
-- quotient fits. Each bound is proved from bounds on what goes in. Assumes nothing.
use Rattle.std.specs.Prelude.{◌≡◌, Bool, true, false, cond, ℕ, ◌+◌, ◌*◌, ◌≤◌, ◌<◌, eqb, ℤ, pos, neg_ℤ, ◌≤ℤ◌}
use Rattle.std.proofs.Common.{le_trans, add-le-add, mul-le-mul, mul-le-mul_left, mul-le-mul_right, mul-pos, arith, lit<, lit≤}
use Rattle.std.proofs.Common.{leb-true, leb-false}
use Rattle.bools.proofs.Laws.Tests.{by_outcome}
use Rattle.exact.specs.Rounding.{up, down}
use Rattle.exact.proofs.Laws.Rounding.{up_least, up_least_below, down_most_above}
use Rattle.exact.specs.Trillion.{trillion}
use Rattle.formulas.specs.Constants.{tera, pi_low, pi_high, ln2_third_low, ln2_third_high}
use Rattle.formulas.specs.Resistance.{temperature_factor, resistance}
use Rattle.formulas.specs.Reactance.{reactance, reactance_low}
use Rattle.formulas.specs.Skin.{skin_reactance, skin_ratio_squared, factor}
use Rattle.formulas.specs.Proximity.{spacing_ratio, proximity_h, proximity_g, proximity_factor, ac_resistance}
use Rattle.formulas.specs.Spacing.{spacing_log_high, spacing_log_low, sheath_reactance, sheath_reactance_low}
use Rattle.formulas.specs.Sheath.{
  bond_ratio,
  bond_ratio_squared,
  circulating_loss,
  three_halves,
  sl_loss,
  eddy_ratio,
  eddy_ratio_squared,
  eddy_factor,
  eddy_spacing,
  eddy_loss,
}
use Rattle.formulas.specs.CommonSheath.{
  first_formula_limit,
  is_first,
  axis_ratio,
  axis_ratio_squared,
  common_ratio,
  common_ratio_squared,
  first_formula,
  second_formula,
  common_loss,
}
use Rattle.formulas.specs.Armour.{reduced_armour_resistance, unscreened_loss, screening_ratio_squared, screened_loss}
use Rattle.formulas.specs.Dielectric.{dielectric_resistance, dielectric_rise}
use Rattle.formulas.specs.Sun.{solar_rise}
use Rattle.formulas.specs.Rating.{unit_rise}
use Rattle.formulas.proofs.Laws.Temperature.{FactorRange, temperature_factor_range}
use Rattle.formulas.proofs.Laws.LogRange.{log_high_most, log_low_most}
use Rattle.formulas.specs.Laws.Bounds.{
  least_conductor_resistance,
  least_sheath_resistance,
  most_resistance,
  least_reactance,
  most_reactance,
  most_skin_reactance,
  most_skin_ratio_squared,
  most_skin_factor,
  most_proximity_factor,
  most_ac_resistance,
  least_insulation_log,
  most_spacing_log,
  most_sheath_reactance,
  most_bond_ratio,
  most_bond_ratio_squared,
  most_eddy_ratio,
  most_eddy_factor,
  most_eddy_spacing,
  most_eddy_inner,
  most_common_ratio,
  most_common_ratio_squared,
  most_common_loss,
  most_sheath_loss,
  most_armour_loss,
  most_dielectric_loss,
  most_dielectric_resistance,
  most_dielectric_rise,
  most_solar_rise,
  most_t4,
  least_unit_rise,
  most_unit_rise,
}
use Rattle.formulas.specs.Refusals.{skin_limit}
use Rattle.formulas.specs.Laws.Ranges.{In}

pub resistance_range :
    (low high : ℕ) {field α : ℕ} (θ : ℤ) → In low high field → α ≤ 450 → neg_ℤ (pos 4000) ≤ℤ θ → θ ≤ℤ pos 25000 →
    In (low * 7300000) (high * 20350000) (resistance field α θ)
unfolding resistance
resistance_range low high {α = α} θ field α≤ cold hot =
    let factor : FactorRange (temperature_factor α θ) = temperature_factor_range α θ α≤ cold hot in
    record { least = mul-le-mul field.least factor.least; most = mul-le-mul field.most factor.most }

pub reactance_range : {f : ℕ} → In 1000 6500 f → In least_reactance most_reactance (reactance f)
unfolding reactance pi_high
reactance_range p = record { least = up_least_below _ _ (lit< tt) (omega arith); most = up_least _ _ (lit< tt) (omega arith) }

pub reactance_low_most : {f : ℕ} → f ≤ 6500 → reactance_low f ≤ 816814089910
unfolding reactance_low pi_low
reactance_low_most f≤ = down_most_above _ _ (lit< tt) (omega arith)

pub skin_reactance_most : {f k : ℕ} → f ≤ 6500 → k ≤ 1000 → skin_reactance f k ≤ most_skin_reactance
unfolding skin_reactance pi_high
skin_reactance_most {f} {k} f≤ k≤ = up_least _ _ (lit< tt) (omega (arith, mul-le-mul f≤ k≤))

pub skin_ratio_squared_most : {z : ℕ} → z ≤ skin_limit → skin_ratio_squared z ≤ most_skin_ratio_squared
unfolding skin_ratio_squared tera
skin_ratio_squared_most z≤ = up_least _ _ (lit< tt) (omega (arith, mul-le-mul z≤ z≤))

pub factor_most : {w : ℕ} → w ≤ most_skin_ratio_squared → factor w ≤ most_skin_factor
unfolding factor tera
factor_most w≤ = up_least _ _ (omega arith) (omega arith)

pub spacing_ratio_most : {dc s : ℕ} → 0 < s → dc ≤ s → spacing_ratio dc s ≤ trillion
unfolding spacing_ratio tera
spacing_ratio_most s>0 dc≤s = up_least _ _ (mul-pos s>0 s>0) (omega (arith, mul-le-mul dc≤s dc≤s))

pub proximity_h_most : {G : ℕ} → G ≤ most_skin_factor → proximity_h G ≤ 600000000000
unfolding proximity_h tera
proximity_h_most G≤ = up_least _ _ (omega arith) (omega arith)

pub proximity_g_most : {u G : ℕ} → u ≤ trillion → G ≤ most_skin_factor → proximity_g u G ≤ 80000000000
unfolding proximity_g
proximity_g_most u≤ G≤ = up_least _ _ (lit< tt) (omega (arith, mul-le-mul u≤ G≤))

pub proximity_factor_most : {u G : ℕ} → u ≤ trillion → G ≤ most_skin_factor → proximity_factor u G ≤ most_proximity_factor
unfolding proximity_factor tera
proximity_factor_most {u} {G} u≤ G≤ =
    let inner : proximity_g u G + proximity_h G ≤ most_proximity_factor = omega (arith, proximity_g_most u≤ G≤, proximity_h_most G≤) in
    up_least _ _ (lit< tt) (omega (arith, mul-le-mul u≤ inner))

pub ac_resistance_range :
    {r' ys yp : ℕ} → In least_conductor_resistance most_resistance r' → ys ≤ most_skin_factor → yp ≤ most_proximity_factor →
    In least_conductor_resistance most_ac_resistance (ac_resistance r' ys yp)
unfolding ac_resistance tera
ac_resistance_range {r'} {ys} {yp} r'-range ys≤ yp≤ =
    record {
      least = up_least_below _ _ (lit< tt) (omega (arith, mul-le-mul_right trillion r'-range.least));
      most = up_least _ _ (lit< tt) (omega (arith, mul-le-mul r'-range.most sum≤));
    }
  where
    sum≤ : trillion + ys + yp ≤ 1934900000000
    sum≤ = omega arith

-- a third of ln 2 or nothing
third_most : (is-two : Bool) (third : ℕ) → cond is-two third 0 ≤ third
third_most true third = omega arith
third_most false third = omega arith

pub spacing_log_high_most : (arrangement s d : ℕ) → 0 < d → d ≤ 2 * s → 2 * s < 32768 * d →
    spacing_log_high arrangement s d ≤ most_spacing_log
unfolding spacing_log_high ln2_third_high
spacing_log_high_most arrangement s d d>0 d≤ <d =
    omega (arith, log_high_most (2 * s) d d>0 d≤ <d, third_most (eqb arrangement 2) 231049060187)

pub spacing_log_low_most : (arrangement s d : ℕ) → 0 < d → d ≤ 2 * s → 2 * s < 32768 * d →
    spacing_log_low arrangement s d ≤ most_spacing_log
unfolding spacing_log_low ln2_third_low
spacing_log_low_most arrangement s d d>0 d≤ <d =
    omega (arith, log_low_most (2 * s) d d>0 d≤ <d, third_most (eqb arrangement 2) 231049060186)

pub sheath_reactance_most : {b l : ℕ} → b ≤ most_reactance → l ≤ most_spacing_log → sheath_reactance b l ≤ most_sheath_reactance
unfolding sheath_reactance tera
sheath_reactance_most b≤ l≤ = up_least _ _ (lit< tt) (omega (arith, mul-le-mul b≤ l≤))

pub sheath_reactance_low_most : {b l : ℕ} → b ≤ most_reactance → l ≤ most_spacing_log → sheath_reactance_low b l ≤ most_sheath_reactance
unfolding sheath_reactance_low tera up down
sheath_reactance_low_most b≤ l≤ = omega (arith, mul-le-mul b≤ l≤)

-- The sheath.

pub bond_ratio_most : {X rs : ℕ} → X ≤ most_sheath_reactance → least_sheath_resistance ≤ rs → bond_ratio X rs ≤ most_bond_ratio
unfolding bond_ratio tera
bond_ratio_most X≤ rs≥ = up_least _ _ (omega arith) (omega arith)

pub bond_ratio_squared_most : {v : ℕ} → v ≤ most_bond_ratio → bond_ratio_squared v ≤ most_bond_ratio_squared
unfolding bond_ratio_squared tera up down
bond_ratio_squared_most v≤ = omega (arith, mul-le-mul v≤ v≤)

pub circulating_loss_most : (X rs : ℕ) → circulating_loss X rs ≤ rs
unfolding circulating_loss tera
circulating_loss_most X rs = up_least _ _ (omega arith) (omega arith)

pub sl_loss_most : (X : ℕ) {rs : ℕ} → rs ≤ most_resistance → sl_loss X rs ≤ most_sheath_loss
unfolding sl_loss three_halves
sl_loss_most X {rs} rs≤ = up_least _ _ (lit< tt) (omega (arith, circulating_loss_most X rs))

pub eddy_ratio_most : (b : ℕ) {rs : ℕ} → 0 < rs → 5 * b ≤ rs → eddy_ratio b rs ≤ most_eddy_ratio
unfolding eddy_ratio tera
eddy_ratio_most b rs>0 b≤ = up_least _ _ (omega arith) (omega arith)

pub eddy_ratio_squared_most : {m : ℕ} → m ≤ most_eddy_ratio → eddy_ratio_squared m ≤ most_eddy_factor
unfolding eddy_ratio_squared tera
eddy_ratio_squared_most m≤ = up_least _ _ (lit< tt) (omega (arith, mul-le-mul m≤ m≤))

-- e', from B and Rs
pub eddy_factor_most :
    (b : ℕ) {rs : ℕ} → 0 < rs → 5 * b ≤ rs → eddy_factor (eddy_ratio_squared (eddy_ratio b rs)) ≤ most_eddy_factor
unfolding eddy_factor tera
eddy_factor_most b rs>0 b≤ =
    up_least _ _ (omega arith) (omega (arith, eddy_ratio_squared_most (eddy_ratio_most b rs>0 b≤)))

pub eddy_spacing_most : {d s : ℕ} → 0 < s → d ≤ s → eddy_spacing d s ≤ most_eddy_spacing
unfolding eddy_spacing tera
eddy_spacing_most s>0 d≤s = up_least _ _ (omega (arith, mul-pos s>0 s>0)) (omega (arith, mul-le-mul d≤s d≤s))

-- the sheath's eddy loss of one core, the inner up(Rs e'/T)
pub eddy_inner_most : {rs e' : ℕ} → rs ≤ most_resistance → e' ≤ most_eddy_factor → up (rs * e') tera ≤ most_eddy_inner
unfolding tera
eddy_inner_most rs≤ e'≤ = up_least _ _ (lit< tt) (omega (arith, mul-le-mul rs≤ e'≤))

pub eddy_loss_most :
    {j rs d s : ℕ} (b : ℕ) → j ≤ 2 → 0 < rs → rs ≤ most_resistance → 5 * b ≤ rs → 0 < s → d ≤ s → eddy_loss j b rs d s ≤ most_sheath_loss
unfolding eddy_loss tera
eddy_loss_most {j} {rs} {d} {s} b j≤ rs>0 rs≤ b≤ s>0 d≤s =
    let e' = eddy_factor (eddy_ratio_squared (eddy_ratio b rs)) in
    let inner≤ : up (rs * e') trillion ≤ 4070000000000 =
    eddy_inner_most rs≤ (eddy_factor_most b rs>0 b≤)
    in
    let j3≤ : 3 * j ≤ 6 = omega arith in
    let cores≤ : 3 * j * up (rs * e') trillion ≤ 6 * 4070000000000 = mul-le-mul j3≤ inner≤ in
    up_least _ _ (lit< tt) (le_trans (mul-le-mul cores≤ (eddy_spacing_most s>0 d≤s)) (lit≤ tt))

-- One sheath around three cores.

pub is_first_most : (rs : ℕ) → is_first rs ≡ true → rs ≤ first_formula_limit
unfolding is_first
is_first_most rs first = leb-true _ _ first

pub is_second : (rs : ℕ) → is_first rs ≡ false → first_formula_limit < rs
unfolding is_first
is_second rs second = leb-false _ _ second

-- where the cores' axes lie within the sheath
pub axis_ratio_most : (c : ℕ) {d : ℕ} → 0 < d → 2 * c ≤ d → axis_ratio c d ≤ trillion
unfolding axis_ratio tera
axis_ratio_most c d>0 c≤ = up_least _ _ (mul-pos d>0 d>0) (omega (arith, mul-le-mul c≤ c≤))

pub axis_ratio_squared_most : {b : ℕ} → b ≤ trillion → axis_ratio_squared b ≤ trillion
unfolding axis_ratio_squared tera
axis_ratio_squared_most b≤ = up_least _ _ (lit< tt) (mul-le-mul b≤ b≤)

pub common_ratio_most : {rs B : ℕ} → rs ≤ first_formula_limit → least_reactance ≤ B → common_ratio rs B ≤ most_common_ratio
unfolding common_ratio tera
common_ratio_most rs≤ B≥ = down_most_above _ _ (omega arith) (omega arith)

pub common_ratio_squared_most : {y : ℕ} → y ≤ most_common_ratio → common_ratio_squared y ≤ most_common_ratio_squared
unfolding common_ratio_squared tera
common_ratio_squared_most y≤ = down_most_above _ _ (lit< tt) (omega (arith, mul-le-mul y≤ y≤))

-- a term of the first formula
pub common_term_most : {b : ℕ} (k : ℕ) → b ≤ trillion → up (b * tera) (tera + k) ≤ trillion
unfolding tera
common_term_most k b≤ = up_least _ _ (omega arith) (omega arith)

pub first_formula_most : (B : ℕ) {rs b : ℕ} → rs ≤ first_formula_limit → b ≤ trillion → first_formula B rs b ≤ most_common_loss
unfolding first_formula tera
first_formula_most B {rs} {b} rs≤ b≤ =
    let three≤ : 3 * rs ≤ 3 * first_formula_limit = omega arith in
    let b2≤ = axis_ratio_squared_most b≤ in
    up_least _ _ (lit< tt)
    (le_trans
    (mul-le-mul three≤
    (add-le-add {b = trillion} {d = trillion}
    (up_least _ _ (omega arith) (omega (arith, b≤)))
    (up_least _ _ (omega arith) (omega (arith, b≤, b2≤)))))
    (lit≤ tt))

pub second_formula_most :
    {B rs b : ℕ} → first_formula_limit < rs → B ≤ most_reactance → b ≤ trillion → second_formula B rs b ≤ most_common_loss
unfolding second_formula tera
second_formula_most {B} {rs} rs> B≤ b≤ =
    let square≤ : 4 * (B * B) ≤ most_common_loss * rs = omega (arith, mul-le-mul B≤ B≤) in
    up_least _ _ (omega arith) (omega (arith, mul-le-mul square≤ b≤))

pub common_loss_most : (rs c : ℕ) {B d : ℕ} → B ≤ most_reactance → 0 < d → 2 * c ≤ d → common_loss B rs c d ≤ most_common_loss
unfolding common_loss
common_loss_most rs c {B} {d} B≤ d>0 c≤ =
    let b = axis_ratio c d in
    let b≤ = axis_ratio_most c d>0 c≤ in
    by_outcome (λ first. cond first (first_formula B rs b) (second_formula B rs b) ≤ most_common_loss) (is_first rs)
    (λ first. first_formula_most B (is_first_most rs first) b≤)
    (λ second. second_formula_most (is_second rs second) B≤ b≤)

-- The armour.

pub reduced_armour_resistance_most : (ra b : ℕ) → reduced_armour_resistance ra b ≤ ra
unfolding reduced_armour_resistance tera
reduced_armour_resistance_most ra b = up_least _ _ (omega arith) (omega arith)

pub unscreened_loss_most : {ra dA : ℕ} (b c : ℕ) → ra ≤ most_resistance → 0 < dA → 2 * c ≤ dA → unscreened_loss ra b c dA ≤ most_armour_loss
unfolding unscreened_loss axis_ratio
unscreened_loss_most {ra} b c ra≤ dA>0 c≤ =
    let r≤ : 123 * reduced_armour_resistance ra b ≤ 50061000000000000 = omega (arith, reduced_armour_resistance_most ra b) in
    up_least _ _ (lit< tt) (le_trans (mul-le-mul r≤ (axis_ratio_most c dA>0 c≤)) (lit≤ tt))

pub screening_ratio_most : {X rs : ℕ} → X ≤ most_sheath_reactance → least_sheath_resistance ≤ rs → down (X * tera) rs ≤ most_bond_ratio
unfolding tera
screening_ratio_most X≤ rs≥ = down_most_above _ _ (omega arith) (omega arith)

pub screening_ratio_squared_most :
    {X rs : ℕ} → X ≤ most_sheath_reactance → least_sheath_resistance ≤ rs → screening_ratio_squared X rs ≤ most_bond_ratio_squared
unfolding screening_ratio_squared tera
screening_ratio_squared_most X≤ rs≥ =
    down_most_above _ _ (lit< tt) (omega (arith, mul-le-mul (screening_ratio_most X≤ rs≥) (screening_ratio_most X≤ rs≥)))

pub screening_most : (v2 : ℕ) → up (tera * tera) (tera + v2) ≤ trillion
unfolding tera
screening_most v2 = up_least _ _ (omega arith) (omega arith)

pub screened_loss_most : {w : ℕ} (X rs : ℕ) → w ≤ most_armour_loss → screened_loss w X rs ≤ most_armour_loss
unfolding screened_loss tera
screened_loss_most X rs w≤ =
    up_least _ _ (lit< tt) (mul-le-mul w≤ (screening_most (screening_ratio_squared X rs)))

-- The dielectric loss.

pub dielectric_loss_most :
    {k b l : ℕ} → k ≤ 720000000000000000 → b ≤ most_reactance → least_insulation_log ≤ l → up (k * b) (360 * l) ≤ most_dielectric_loss
dielectric_loss_most k≤ b≤ l≥ = up_least _ _ (omega arith) (omega (arith, mul-le-mul k≤ b≤))

pub dielectric_resistance_most :
    {n t1 t2 t3 t4 : ℕ} → n ≤ 3 → t1 ≤ 10000000 → t2 ≤ 10000000 → t3 ≤ 10000000 → t4 ≤ most_t4 →
    dielectric_resistance n t1 t2 t3 t4 ≤ most_dielectric_resistance
unfolding dielectric_resistance
dielectric_resistance_most {n} {t2 = t2} {t3} {t4} n≤ t1≤ t2≤ t3≤ t4≤ =
    let outer≤ : 1000 * (t2 + t3) + t4 ≤ 120000000000 = omega arith in
    omega (arith, mul-le-mul n≤ outer≤)

pub dielectric_rise_most :
    {n wd t1 t2 t3 t4 : ℕ} → n ≤ 3 → wd ≤ most_dielectric_loss → t1 ≤ 10000000 → t2 ≤ 10000000 → t3 ≤ 10000000 → t4 ≤ most_t4 →
    dielectric_rise n wd t1 t2 t3 t4 ≤ most_dielectric_rise
unfolding dielectric_rise
dielectric_rise_most n≤ wd≤ t1≤ t2≤ t3≤ t4≤ =
    up_least _ _ (lit< tt) (mul-le-mul wd≤ (dielectric_resistance_most n≤ t1≤ t2≤ t3≤ t4≤))

-- The rise by the sun.

pub solar_rise_most : {heat t4 : ℕ} → heat ≤ 200000 → t4 ≤ 20000000 → solar_rise heat t4 ≤ most_solar_rise
unfolding solar_rise
solar_rise_most heat≤ t4≤ = mul-le-mul heat≤ t4≤

-- The rise at unit current.

pub unit_rise_least :
    (n s w t2 t3 t4 : ℕ) {r t1 : ℕ} → least_conductor_resistance ≤ r → 1000 ≤ t1 → least_unit_rise ≤ unit_rise n r s w t1 t2 t3 t4
unfolding unit_rise
unit_rise_least n s w t2 t3 t4 {r} {t1} r≥ t1≥ =
    let first : 36500000 ≤ up (r * t1) 1000000 = up_least_below _ _ (lit< tt) (omega (arith, mul-le-mul r≥ t1≥)) in
    omega arith

pub unit_rise_most :
    {n r s w t1 t2 t3 t4 : ℕ} → n ≤ 3 → r ≤ most_ac_resistance → s ≤ most_sheath_loss → w ≤ most_armour_loss → t1 ≤ 10000000 →
    t2 ≤ 10000000 → t3 ≤ 10000000 → t4 ≤ most_t4 → unit_rise n r s w t1 t2 t3 t4 ≤ most_unit_rise
unfolding unit_rise
unit_rise_most n≤ r≤ s≤ w≤ t1≤ t2≤ t3≤ t4≤ =
    let first = up_least _ 7880000000000000 {b = 1000000} (lit< tt) (mul-le-mul r≤ t1≤) in
    let second = up_least _ 41955000000000000 {b = 1000000} (lit< tt) (mul-le-mul (mul-le-mul n≤ (add-le-add r≤ s≤)) t2≤) in
    let third =
    up_least _ 626706300000000000 {b = 1000000000} (lit< tt)
    (mul-le-mul (mul-le-mul n≤ (add-le-add (add-le-add r≤ s≤) w≤)) (add-le-add (mul-le-mul_left 1000 t3≤) t4≤))
    in
    le_trans (add-le-add (add-le-add first second) third) (lit≤ tt)
