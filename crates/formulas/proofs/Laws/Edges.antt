-- The starred values at the edges of docs/CLAIMS.md, as one theorem; as another the edges of refusals 8 and 11 that the stars leave out:
-- where kp decides, and the largest rating; and as further ones those of arrangement 6, of dry soil and of the sun. Each is computed from
-- the definition or the table that the rating uses. Assumes nothing.
use Rattle.std.specs.Prelude.{◌≡◌, refl, Bool, true, false, ℕ, ◌+◌, ◌*◌, pos, neg_ℤ}
use Rattle.exact.specs.Rounding.{up, down}
use Rattle.exact.specs.Root.{root}
use Rattle.formulas.specs.Tables.{ks, kp, coefficient, conductor_metal}
use Rattle.formulas.specs.Constants.{tera, pi_low, pi_high, ln2_low, ln2_high}
use Rattle.formulas.specs.Resistance.{temperature_factor, resistance}
use Rattle.formulas.specs.Reactance.{reactance, reactance_low}
use Rattle.formulas.specs.Skin.{skin_reactance, skin_ratio, factor}
use Rattle.formulas.specs.Proximity.{spacing_ratio}
use Rattle.formulas.specs.Logarithm.{octaves, doubled, first_power, thirteen_terms, log_low, log_high}
use Rattle.formulas.specs.Sheath.{bond_ratio, bond_ratio_squared, circulating_loss}
use Rattle.formulas.specs.CommonSheath.{
  is_first,
  axis_ratio,
  axis_ratio_squared,
  common_ratio,
  common_ratio_squared,
  first_formula,
  second_formula,
  common_loss,
}
use Rattle.formulas.specs.Soil.{soil_ratio, soil_resistance, permitted_rise}
use Rattle.formulas.specs.Sun.{solar_rise}
use Rattle.formulas.specs.Dielectric.{dielectric_resistance, dielectric_rise, current_rise}
use Rattle.formulas.specs.Rating.{unit_rise, rating}
use Rattle.formulas.specs.Refusals.{skin_refused, eddy_refused, dielectric_refused, current_refused}

-- refusal 8 of a conductor code at a frequency and an R'
abbrev skin_refused_at : ℕ → ℕ → ℕ → Bool
skin_refused_at f code r' = skin_refused (skin_ratio f (ks code) r') (skin_ratio f (kp code) r')

pub record Starred : Type 0 where
  pub B : reactance 5000 ≡ 628318530720
  pub B- : reactance_low 5000 ≡ 628318530700
  pub copper : resistance 28300 (coefficient (conductor_metal 1)) (pos 9000) ≡ 360853300000
  pub lead : resistance 400000 (coefficient 1) (pos 8000) ≡ 4960000000000
  pub steel : temperature_factor (coefficient 6) (neg_ℤ (pos 4000)) ≡ pos 7300000
  pub skin : factor (48 * tera) ≡ 208333333334
  pub u : spacing_ratio 3000 9000 ≡ 111111111112
  pub log2_low : log_low 2 1 ≡ 693147180559
  pub log2_high : log_high 2 1 ≡ 693147180561
  pub S : circulating_loss 4960000000000 4960000000000 ≡ 2480000000000
  pub passes_8 : skin_refused_at 5000 1 160285339470 ≡ false
  pub gets_8 : skin_refused_at 5000 1 160285339469 ≡ true
  pub passes_9 : eddy_refused (reactance 5000) 3141592653600 ≡ false
  pub gets_9 : eddy_refused (reactance 5000) 3141592653599 ≡ true
  pub passes_10 : dielectric_refused 45000000000 (permitted_rise 0 5000 0) ≡ false
  pub gets_10 : dielectric_refused 45000000001 (permitted_rise 0 5000 0) ≡ true
  pub I : rating 50000000000 500000000000 ≡ 1000000
  pub I_less : rating 49999999999 500000000000 ≡ 999999

pub starred : Starred
unfolding up down root conductor_metal tera pi_low pi_high ln2_low ln2_high temperature_factor resistance reactance reactance_low
    skin_reactance skin_ratio factor spacing_ratio octaves doubled first_power thirteen_terms log_low log_high bond_ratio
    bond_ratio_squared circulating_loss rating skin_refused eddy_refused dielectric_refused soil_ratio permitted_rise
starred =
    record {
      B = refl;
      B- = refl;
      copper = refl;
      lead = refl;
      steel = refl;
      skin = refl;
      u = refl;
      log2_low = refl;
      log2_high = refl;
      S = refl;
      passes_8 = refl;
      gets_8 = refl;
      passes_9 = refl;
      gets_9 = refl;
      passes_10 = refl;
      gets_10 = refl;
      I = refl;
      I_less = refl;
    }

pub record Unstarred : Type 0 where
  -- refusal 8: both z at the limit pass, and either of them above it is refused
  pub both_z_pass_8 : skin_refused 7840000000000 7840000000000 ≡ false
  pub zs_gets_8 : skin_refused 7840000000001 7840000000000 ≡ true
  pub zp_gets_8 : skin_refused 7840000000000 7840000000001 ≡ true
  -- of four segments of aluminium, whose kp is above ks, kp's z decides
  pub kp_passes_8 : skin_refused_at 5000 6 59305575604 ≡ false
  pub kp_gets_8 : skin_refused_at 5000 6 59305575603 ≡ true
  -- refusal 11: a rating of 5000000 passes, 1 mA more is refused
  pub passes_11 : current_refused 5000000 ≡ false
  pub gets_11 : current_refused 5000001 ≡ true
  -- with E at 10^11, the largest N whose rating passes, and the next N
  pub rating_passes_11 : current_refused (rating 250000100000 100000000000) ≡ false
  pub rating_gets_11 : current_refused (rating 250000100001 100000000000) ≡ true

pub unstarred : Unstarred
unfolding up down root tera pi_high skin_reactance skin_ratio rating skin_refused current_refused
unstarred =
    record {
      both_z_pass_8 = refl;
      zs_gets_8 = refl;
      zp_gets_8 = refl;
      kp_passes_8 = refl;
      kp_gets_8 = refl;
      passes_11 = refl;
      gets_11 = refl;
      rating_passes_11 = refl;
      rating_gets_11 = refl;
    }

-- Arrangement 6: a core's axis in the middle of its sheath's radius, and on the sheath; each number where y is 1; and the two formulas at
-- 100 µΩ/m, where the first still holds, and one unit above.
pub record CommonSheathStarred : Type 0 where
  pub b_half : axis_ratio 2500 10000 ≡ 250000000000
  pub b_least : axis_ratio 100 50000 ≡ 16000000
  pub b_most : axis_ratio 3688 7376 ≡ 1000000000000
  pub b_rounded : axis_ratio 1000 3000 ≡ 444444444445
  pub b2 : axis_ratio_squared 250000000000 ≡ 62500000000
  pub y_one : common_ratio 314159265360 (reactance 5000) ≡ 1000000000000
  pub y_down : common_ratio 314159265359 (reactance 5000) ≡ 999999999996
  pub y2_down : common_ratio_squared 999999999996 ≡ 999999999992
  -- 3 Rs (1/4 × 1/2 + 1/16 × 1/5)
  pub S_at_y_one : common_loss (reactance 5000) 314159265360 2500 10000 ≡ 129590696961
  pub S_at_limit : common_loss (reactance 5000) 1000000000000 2500 10000 ≡ 71887596300
  -- 0.8 B² × 1/4 over Rs
  pub S_above_limit : common_loss (reactance 5000) 1000000000001 2500 10000 ≡ 78956835210
  -- the least S: the largest Rs, the least b and the least B
  pub S_least : common_loss (reactance 1000) 407000000000000 100 50000 ≡ 497

pub common_sheath_starred : CommonSheathStarred
unfolding up down tera pi_high reactance axis_ratio axis_ratio_squared common_ratio common_ratio_squared is_first first_formula
    second_formula common_loss
common_sheath_starred =
    record {
      b_half = refl;
      b_least = refl;
      b_most = refl;
      b_rounded = refl;
      b2 = refl;
      y_one = refl;
      y_down = refl;
      y2_down = refl;
      S_at_y_one = refl;
      S_at_limit = refl;
      S_above_limit = refl;
      S_least = refl;
    }

-- Dry soil: ρ as it counts; T4 and the permitted rise with a ρ of none, 1000, 2500 and 5000, and the isotherm at θa, between and at θc; E
-- and dd with a ρ T4 of 10011001, where T4 rounded before would be 10012 or 10011; and refusal 10 with what dry soil adds to the permitted
-- rise.
pub record DrySoilStarred : Type 0 where
  pub ratio_none : soil_ratio 0 ≡ 1000
  pub ratio_one : soil_ratio 1000 ≡ 1000
  pub ratio_most : soil_ratio 5000 ≡ 5000
  pub T4_none : soil_resistance 0 10001 ≡ 10001000
  pub T4_one : soil_resistance 1000 10001 ≡ 10001000
  pub T4_more : soil_resistance 1001 10001 ≡ 10011001
  pub T4_most : soil_resistance 5000 20000000 ≡ 100000000000
  pub P_none : permitted_rise 0 7000 1500 ≡ 70000000000
  pub P_one : permitted_rise 1000 7000 1500 ≡ 70000000000
  pub P_between : permitted_rise 2500 7000 1500 ≡ 92500000000
  pub P_at_ambient : permitted_rise 5000 7000 0 ≡ 70000000000
  pub P_at_conductor : permitted_rise 5000 7000 7000 ≡ 350000000000
  pub P_most : permitted_rise 5000 29000 29000 ≡ 1450000000000
  pub E : unit_rise 1 1000000000000 0 0 1000 0 0 (soil_resistance 1001 10001) ≡ 11011001000
  pub E_rounded_once : unit_rise 1 99885 0 0 1000 0 0 (soil_resistance 1001 10001) ≡ 1100
  pub dd : dielectric_rise 1 1000000000000 1000 0 0 (soil_resistance 1001 10001) ≡ 10511001
  pub dd_rounded_once : dielectric_rise 1 1000000000000 0 0 0 (soil_resistance 1001 1) ≡ 1001
  pub N : current_rise (permitted_rise 2500 7000 1500) 10511001 ≡ 92489488999
  pub passes_10_dry : dielectric_refused 83250000000 (permitted_rise 2500 7000 1500) ≡ false
  pub gets_10_dry : dielectric_refused 83250000001 (permitted_rise 2500 7000 1500) ≡ true
  pub gets_10_moist : dielectric_refused 83250000000 (permitted_rise 0 7000 1500) ≡ true

pub dry_soil_starred : DrySoilStarred
unfolding up soil_ratio soil_resistance permitted_rise unit_rise dielectric_resistance dielectric_rise current_rise dielectric_refused
dry_soil_starred =
    record {
      ratio_none = refl;
      ratio_one = refl;
      ratio_most = refl;
      T4_none = refl;
      T4_one = refl;
      T4_more = refl;
      T4_most = refl;
      P_none = refl;
      P_one = refl;
      P_between = refl;
      P_at_ambient = refl;
      P_at_conductor = refl;
      P_most = refl;
      E = refl;
      E_rounded_once = refl;
      dd = refl;
      dd_rounded_once = refl;
      N = refl;
      passes_10_dry = refl;
      gets_10_dry = refl;
      gets_10_moist = refl;
    }

-- The sun: its rise at the ends of field 29 and of T4; N with it; and refusal 10 at equality and one beyond, by the sun alone.
pub record SunStarred : Type 0 where
  pub none : solar_rise 0 20000000 ≡ 0
  pub least : solar_rise 1 10000 ≡ 10000
  pub most : solar_rise 200000 20000000 ≡ 4000000000000
  pub N : current_rise (permitted_rise 0 7000 0) (557941517 + solar_rise 30000 450000) ≡ 55942058483
  pub passes_10 : dielectric_refused (solar_rise 45000 1000000) (permitted_rise 0 5000 0) ≡ false
  pub gets_10 : dielectric_refused (solar_rise 45000 1000000 + 1) (permitted_rise 0 5000 0) ≡ true

pub sun_starred : SunStarred
unfolding solar_rise soil_ratio permitted_rise current_rise dielectric_refused
sun_starred =
    record {
      none = refl;
      least = refl;
      most = refl;
      N = refl;
      passes_10 = refl;
      gets_10 = refl;
    }
