-- Field 29 at the edges of refusals 3, 4 and 32, each at equality and one beyond; of 3 by it and each other refusal of the fields, and of
-- 32 and each other refusal, the earlier; and what d0, N, the sheet and refusal 10 take of the sun. A definition that moves one is refused
-- here. Assumes nothing.
use Rattle.std.specs.Prelude.{◌≡◌, refl, true, false, List, [], ◌∷◌, map, ℕ, replicate, set}
use Rattle.exact.specs.Rounding.{up, down}
use Rattle.exact.specs.Root.{root}
use Rattle.formulas.specs.Constants.{tera, pi_high, ln2_low}
use Rattle.bools.specs.First.{or_refused}
use Rattle.formulas.specs.Tables.{conductor_metal}
use Rattle.formulas.specs.Resistance.{temperature_factor, resistance}
use Rattle.formulas.specs.Reactance.{reactance}
use Rattle.formulas.specs.Skin.{skin_reactance, skin_ratio, skin_ratio_squared, factor, skin_factor}
use Rattle.formulas.specs.Proximity.{spacing_ratio, proximity_h, proximity_g, proximity_factor, ac_resistance}
use Rattle.formulas.specs.CommonSheath.{
  is_first,
  axis_ratio,
  axis_ratio_squared,
  common_ratio,
  common_ratio_squared,
  first_formula,
  second_formula,
  common_loss,
}
use Rattle.formulas.specs.Logarithm.{doublings, octaves, doubled, series, first_power, thirteen_terms, log_low}
use Rattle.formulas.specs.Soil.{soil_ratio, soil_resistance, permitted_rise}
use Rattle.formulas.specs.Sun.{solar_rise}
use Rattle.formulas.specs.Dielectric.{dielectric_loss, dielectric_resistance, dielectric_rise, current_rise}
use Rattle.formulas.specs.Rating.{unit_rise, rating}
use Rattle.formulas.specs.Refusals.{skin_refused, eddy_refused, dielectric_refused, current_refused}
use Rattle.rating.specs.Values.{
  R',
  Rs,
  B,
  zs,
  zp,
  ys,
  G,
  yp,
  R,
  loss_counts,
  Wd,
  rise_of,
  isotherm_rise_of,
  soil_T4,
  permitted_of,
  solar_rise_of,
}
use Rattle.rating.specs.Arrangement.{axis_limits, no_armour, armourless}
use Rattle.rating.specs.BothEnds.{both_ends}
use Rattle.rating.specs.OnePoint.{one_point}
use Rattle.rating.specs.SlType.{armour_limits, sl_type}
use Rattle.rating.specs.CommonSheath.{common_sheath}
use Rattle.rating.specs.DirectCurrent.{no_alternating, direct_current}
use Rattle.rating.specs.Arrangements.{no_arrangement, arrangement_of}
use Rattle.rating.specs.Stage10.{numbers_of, d0, N, E, current_of}
use Rattle.rating.specs.Rate.{refused, sheet_of, rated, loaded, judged, rate_of}
use Rattle.rating.specs.Current.{R_of, Wd_of}
use Rattle.rating.specs.FieldRefusals.{
  conductor_refused,
  limit_refused,
  conductor_limits,
  alternating_limits,
  thermal_limits,
  moist,
  further_limits,
  isotherm_unused,
  stray_refused,
  geometry_refused,
  heat_refused,
  isotherm_refused,
  sun_refused,
  metal_refused,
  direct_voltage_refused,
  field_refusals,
  field_refusal,
}
use Rattle.rating.proofs.Laws.Answers.{trefoil_one_point, aluminium, dry_soil, bridge, sunlit, sunlit_dry}
use Rattle.rating.proofs.Laws.Edges.{each, having, having_both, wrong_metal}
use Rattle.rating.proofs.Laws.DrySoilEdges.{few_eddies, cooled}
use Rattle.rating.proofs.Laws.First.{number}

-- the cable of arrangement 6 in soil that dries out within the isotherm of 35 °C, and in the sun
abbrev heated : (ρ heat : ℕ) → List ℕ
heated ρ heat = set (set dry_soil 27 ρ) 29 heat

-- with another field set anew, where field 29 is above its limit, and where soil dries out in the sun

abbrev too_hot : (field word : ℕ) → ℕ
too_hot field word = field_refusal (having_both 29 200001 field word)

abbrev misplaced : (field word : ℕ) → ℕ
misplaced field word = field_refusal (set (heated 2500 1) field word)

pub record SunEdges : Type 0 where
  -- 3: field 29 has its limits, in each arrangement
  pub heat_passes_3 : map (λ heat. limit_refused (having 29 heat)) (0 ∷ 1 ∷ 200000 ∷ []) ≡ false ∷ false ∷ false ∷ []
  pub heat_gets_3 : map (λ heat. limit_refused (having 29 heat)) (200001 ∷ 4294967295 ∷ []) ≡ true ∷ true ∷ []
  pub most_in_each : map (λ x. field_refusal (set x 29 200000)) each ≡ replicate 7 0
  pub above_in_each : map (λ x. field_refusal (set x 29 200001)) each ≡ replicate 7 3
  pub last_word_in_each : map (λ x. field_refusal (set x 29 4294967295)) each ≡ replicate 7 3
  -- 4 spares it, whatever stands there
  pub heat_passes_4 : map (λ heat. stray_refused (having 29 heat)) (1 ∷ 200001 ∷ 4294967295 ∷ []) ≡ false ∷ false ∷ false ∷ []
  pub spared_in_each : map (λ x. stray_refused (set x 29 4294967295)) each ≡ replicate 7 false
  -- 32: neither ρ nor field 29 is 0; a ρ of 1000 is not 0
  pub moist_passes_32 : map (λ heat. sun_refused (heated 0 heat)) (0 ∷ 1 ∷ 200000 ∷ []) ≡ false ∷ false ∷ false ∷ []
  pub shade_passes_32 : map (λ ρ. sun_refused (heated ρ 0)) (1 ∷ 1000 ∷ 5000 ∷ []) ≡ false ∷ false ∷ false ∷ []
  pub least_heat_gets_32 : map (λ ρ. sun_refused (heated ρ 1)) (1 ∷ 1000 ∷ 1001 ∷ 5000 ∷ []) ≡ true ∷ true ∷ true ∷ true ∷ []
  pub most_heat_gets_32 : map (λ ρ. sun_refused (heated ρ 200000)) (1 ∷ 1000 ∷ 1001 ∷ 5000 ∷ []) ≡ true ∷ true ∷ true ∷ true ∷ []
  pub on_the_bridge : map field_refusal (bridge ∷ sunlit ∷ sunlit_dry ∷ []) ≡ 0 ∷ 0 ∷ 32 ∷ []
  -- and so in each arrangement
  pub refused_in_each : map (λ x. field_refusal (set (set (set x 27 1000) 28 3500) 29 1)) each ≡ replicate 7 32
  -- of two the earlier: 1 and 2 before 3 by field 29, and that before the others
  pub arrangement_before_limit : too_hot 0 8 ≡ 1
  pub conductor_before_limit : too_hot 1 9 ≡ 2
  pub limit_before_stray : too_hot 17 1 ≡ 3
  pub limit_before_geometry : too_hot 7 1849 ≡ 3
  pub limit_before_heat : too_hot 16 9001 ≡ 3
  pub limit_before_isotherm : field_refusal (set (heated 2500 200001) 28 9001) ≡ 3
  pub limit_before_sun : field_refusal (heated 2500 200001) ≡ 3
  pub limit_before_metal : field_refusal (set wrong_metal 29 200001) ≡ 3
  -- 1 to 6 and 31 before 32
  pub arrangement_before_sun : misplaced 0 8 ≡ 1
  pub conductor_before_sun : misplaced 1 9 ≡ 2
  pub loss_voltage_before_sun : misplaced 26 300001 ≡ 3
  pub ratio_before_sun : misplaced 27 999 ≡ 3
  pub stray_before_sun : misplaced 17 1 ≡ 4
  pub geometry_before_sun : misplaced 7 1849 ≡ 5
  pub heat_before_sun : misplaced 16 9001 ≡ 6
  pub isotherm_before_sun : map (misplaced 28) (1999 ∷ 9001 ∷ []) ≡ 31 ∷ 31 ∷ []
  -- and 32 before 7
  pub metal_alone : field_refusal (set wrong_metal 29 1) ≡ 7
  pub sun_before_metal : field_refusal (set (set (set wrong_metal 27 2500) 28 3500) 29 1) ≡ 32
  pub sun_before_metals : field_refusal (set (set (set aluminium 27 2500) 28 3500) 29 1) ≡ 32

pub sun_edges : SunEdges
unfolding or_refused field_refusals conductor_refused limit_refused conductor_limits alternating_limits thermal_limits moist
    further_limits isotherm_unused stray_refused geometry_refused heat_refused isotherm_refused sun_refused metal_refused
    direct_voltage_refused arrangement_of no_arrangement both_ends one_point sl_type armour_limits common_sheath axis_limits no_armour
    armourless no_alternating direct_current
sun_edges =
    record {
      heat_passes_3 = refl;
      heat_gets_3 = refl;
      most_in_each = refl;
      above_in_each = refl;
      last_word_in_each = refl;
      heat_passes_4 = refl;
      spared_in_each = refl;
      moist_passes_32 = refl;
      shade_passes_32 = refl;
      least_heat_gets_32 = refl;
      most_heat_gets_32 = refl;
      on_the_bridge = refl;
      refused_in_each = refl;
      arrangement_before_limit = refl;
      conductor_before_limit = refl;
      limit_before_stray = refl;
      limit_before_geometry = refl;
      limit_before_heat = refl;
      limit_before_isotherm = refl;
      limit_before_sun = refl;
      limit_before_metal = refl;
      arrangement_before_sun = refl;
      conductor_before_sun = refl;
      loss_voltage_before_sun = refl;
      ratio_before_sun = refl;
      stray_before_sun = refl;
      geometry_before_sun = refl;
      heat_before_sun = refl;
      isotherm_before_sun = refl;
      metal_alone = refl;
      sun_before_metal = refl;
      sun_before_metals = refl;
    }

-- the sun's rise, d0, N and dd
abbrev rises : List ℕ → List ℕ
rises x = solar_rise_of x ∷ d0 x ∷ N x ∷ (numbers_of x).dd ∷ []

-- the cable of arrangement 6 without dielectric loss, with a permitted rise of 50 K, of which nine tenths are 45 K
abbrev lossless : (t4 heat : ℕ) → List ℕ
lossless t4 heat = set (set (having_both 4 4000 26 12001) 25 t4) 29 heat

-- that on the bridge at 200 kV, whose dd and sun together are nine tenths of 60 K
abbrev at_both : List ℕ
at_both = set (set (set sunlit 10 200000) 25 488674) 29 51813

pub record SunValues : Type 0 where
  -- field 29 times T4, with no rounding, from none to the most
  pub none : map (λ t4. solar_rise_of (having_both 25 t4 29 0)) (10000 ∷ 20000000 ∷ []) ≡ 0 ∷ 0 ∷ []
  pub least : map (λ t4. solar_rise_of (having_both 25 t4 29 1)) (10000 ∷ 20000000 ∷ []) ≡ 10000 ∷ 20000000 ∷ []
  pub most : map (λ t4. solar_rise_of (having_both 25 t4 29 200000)) (10000 ∷ 20000000 ∷ []) ≡ 2000000000 ∷ 4000000000000 ∷ []
  -- with no ρ, and once in a cable of three cores as in one of one
  pub dry : map (λ ρ. solar_rise_of (set sunlit 27 ρ)) (0 ∷ 1000 ∷ 2500 ∷ 5000 ∷ []) ≡ replicate 4 10305780120
  pub three_cored : rises (having 29 50220) ≡ 43674576300 ∷ 43842575716 ∷ 26157424284 ∷ 167999416 ∷ []
  pub single_core : rises (set trefoil_one_point 29 50220) ≡ 25110000000 ∷ 25334089228 ∷ 49665910772 ∷ 224089228 ∷ []
  -- the bridge in the shade, in the sun, and with the sun taken off; the sheet is the same without
  pub shade : rises bridge ≡ 0 ∷ 73694876 ∷ 59926305124 ∷ 73694876 ∷ []
  pub sun : rises sunlit ≡ 10305780120 ∷ 10378292640 ∷ 49621707360 ∷ 72512520 ∷ []
  pub sun_taken_off : rises (set sunlit 29 0) ≡ 0 ∷ 72512520 ∷ 59927487480 ∷ 72512520 ∷ []
  pub sheet : sheet_of sunlit ≡ sheet_of (set sunlit 29 0)
  -- 10 by the sun alone: at nine tenths of the permitted rise, 10^-9 K beyond, and by 1 mW/m
  pub alone_at_share : rises (lossless 1000000 45000) ≡ 45000000000 ∷ 45000000000 ∷ 5000000000 ∷ 0 ∷ []
  pub alone_passes_10 : (rate_of (lossless 1000000 45000)).number ≡ 0
  pub alone_beyond_share : rises (lossless 9447827 4763) ≡ 45000000001 ∷ 45000000001 ∷ 4999999999 ∷ 0 ∷ []
  pub alone_gets_10 : (rate_of (lossless 9447827 4763)).number ≡ 10
  pub heat_gets_10 : (rate_of (lossless 1000000 45001)).number ≡ 10
  -- and by dd and the sun together, at nine tenths, and by 1 V and by 1 mW/m beyond, where neither is refused alone
  pub both_at_share : rises at_both ≡ 25319665962 ∷ 54000000000 ∷ 6000000000 ∷ 28680334038 ∷ []
  pub both_pass_10 : (rate_of at_both).number ≡ 0
  pub voltage_gets_10 : (rate_of (set at_both 10 200001)).number ≡ 10
  pub sun_gets_10 : (rate_of (set at_both 29 51814)).number ≡ 10
  pub dd_alone_passes : (rate_of (set (set at_both 10 200001) 29 0)).number ≡ 0
  pub sun_alone_passes : (rate_of (set (set at_both 29 51814) 26 300000)).number ≡ 0
  -- 8, 9 and 11 in the sun, and 32 before them and before 10
  pub skin_alone : (rate_of (set sunlit 5 5000)).number ≡ 8
  pub sun_before_skin : (rate_of (set (set sunlit_dry 5 5000) 29 1)).number ≡ 32
  pub eddy_alone : (rate_of (set (set few_eddies 27 0) 29 1)).number ≡ 9
  pub sun_before_eddy : (rate_of (set (set few_eddies 28 3500) 29 1)).number ≡ 32
  pub sun_before_dielectric : (rate_of (set (set dry_soil 10 300000) 29 1)).number ≡ 32
  pub sun_before_dielectric_by_sun : (rate_of (set dry_soil 29 200000)).number ≡ 32
  pub current_alone : (rate_of (set (set (set cooled 27 0) 28 0) 29 1)).number ≡ 11
  pub sun_before_current : (rate_of (set cooled 29 1)).number ≡ 32

pub sun_values : SunValues
unfolding rated sheet_of refused loaded judged or_refused field_refusals conductor_refused limit_refused conductor_limits
    alternating_limits thermal_limits moist further_limits isotherm_unused stray_refused geometry_refused heat_refused isotherm_refused
    sun_refused metal_refused direct_voltage_refused arrangement_of one_point common_sheath axis_limits no_armour armourless R_of Wd_of
    skin_refused eddy_refused dielectric_refused current_refused R' Rs B zs zp ys G yp R loss_counts Wd rise_of isotherm_rise_of soil_T4
    permitted_of solar_rise_of d0 N E current_of soil_ratio soil_resistance permitted_rise conductor_metal temperature_factor resistance
    reactance skin_reactance skin_ratio skin_ratio_squared factor skin_factor spacing_ratio proximity_h proximity_g proximity_factor
    ac_resistance log_low thirteen_terms series first_power doubled octaves doublings dielectric_loss dielectric_resistance
    dielectric_rise solar_rise current_rise unit_rise rating root pi_high ln2_low tera up down common_loss axis_ratio axis_ratio_squared
    common_ratio common_ratio_squared is_first first_formula second_formula
sun_values =
    record {
      none = refl;
      least = refl;
      most = refl;
      dry = refl;
      three_cored = refl;
      single_core = refl;
      shade = refl;
      sun = refl;
      sun_taken_off = refl;
      sheet = refl;
      alone_at_share = refl;
      alone_passes_10 = number _ refl;
      alone_beyond_share = refl;
      alone_gets_10 = number _ refl;
      heat_gets_10 = number _ refl;
      both_at_share = refl;
      both_pass_10 = number _ refl;
      voltage_gets_10 = number _ refl;
      sun_gets_10 = number _ refl;
      dd_alone_passes = number _ refl;
      sun_alone_passes = number _ refl;
      skin_alone = number _ refl;
      sun_before_skin = number _ refl;
      eddy_alone = number _ refl;
      sun_before_eddy = number _ refl;
      sun_before_dielectric = number _ refl;
      sun_before_dielectric_by_sun = number _ refl;
      current_alone = number _ refl;
      sun_before_current = number _ refl;
    }
