-- Fields 27 and 28 at the edges of refusals 3, 4 and 31, each at equality and one beyond; of 31 and each other refusal but 32, and of 4 by
-- field 28 and the other refusals of the fields, the earlier; and what stages 9 and 10 and refusal 10 take of dry soil, at its ends. A
-- definition that moves one is refused here. Assumes nothing.
use Rattle.std.specs.Prelude.{◌≡◌, refl, true, false, List, [], ◌∷◌, map, ℕ, replicate, set}
use Rattle.exact.specs.Rounding.{up, down}
use Rattle.exact.specs.Root.{root}
use Rattle.formulas.specs.Constants.{tera, pi_high, ln2_low}
use Rattle.bools.specs.First.{or_refused}
use Rattle.formulas.specs.Tables.{conductor_metal}
use Rattle.formulas.specs.Resistance.{temperature_factor, resistance}
use Rattle.formulas.specs.Reactance.{reactance}
use Rattle.formulas.specs.Skin.{skin_reactance, skin_ratio, skin_ratio_squared, factor, skin_factor}
use Rattle.formulas.specs.Proximity.{spacing_ratio, proximity_h, proximity_g, proximity_factor, ac_resistance}
use Rattle.formulas.specs.CommonSheath.{
  is_first,
  axis_ratio,
  axis_ratio_squared,
  common_ratio,
  common_ratio_squared,
  first_formula,
  second_formula,
  common_loss,
}
use Rattle.formulas.specs.Logarithm.{doublings, octaves, doubled, series, first_power, thirteen_terms, log_low}
use Rattle.formulas.specs.Soil.{soil_ratio, soil_resistance, permitted_rise}
use Rattle.formulas.specs.Sun.{solar_rise}
use Rattle.formulas.specs.Dielectric.{dielectric_loss, dielectric_resistance, dielectric_rise, current_rise}
use Rattle.formulas.specs.Rating.{unit_rise, rating}
use Rattle.formulas.specs.Refusals.{skin_refused, eddy_refused, dielectric_refused, current_refused}
use Rattle.rating.specs.Values.{
  R',
  Rs,
  B,
  zs,
  zp,
  ys,
  G,
  yp,
  R,
  loss_counts,
  Wd,
  rise_of,
  isotherm_rise_of,
  soil_T4,
  permitted_of,
  solar_rise_of,
}
use Rattle.rating.specs.Arrangement.{axis_limits, no_armour, armourless}
use Rattle.rating.specs.BothEnds.{both_ends}
use Rattle.rating.specs.OnePoint.{one_point}
use Rattle.rating.specs.SlType.{armour_limits, sl_type}
use Rattle.rating.specs.CommonSheath.{common_sheath}
use Rattle.rating.specs.DirectCurrent.{no_alternating, direct_current}
use Rattle.rating.specs.Arrangements.{no_arrangement, arrangement_of}
use Rattle.rating.specs.Stage10.{numbers_of, d0, N, E, current_of}
use Rattle.rating.specs.Rate.{refused, sheet_of, rated, loaded, judged, rate_of}
use Rattle.rating.specs.Current.{R_of, Wd_of}
use Rattle.rating.specs.FieldRefusals.{
  conductor_refused,
  limit_refused,
  conductor_limits,
  alternating_limits,
  thermal_limits,
  moist,
  further_limits,
  isotherm_unused,
  stray_refused,
  geometry_refused,
  heat_refused,
  isotherm_refused,
  sun_refused,
  metal_refused,
  direct_voltage_refused,
  field_refusals,
  field_refusal,
}
use Rattle.rating.proofs.Laws.Answers.{trefoil_one_point, aluminium, three_cores, dry_soil, cold_isotherm}
use Rattle.rating.proofs.Laws.Edges.{each, having, having_both, wrong_metal}
use Rattle.rating.proofs.Laws.First.{number}

-- the same cable in soil that dries out: its θa is 2000 and its θc 9000

abbrev dried : (ρ isotherm : ℕ) → List ℕ
dried ρ isotherm = having_both 27 ρ 28 isotherm

-- with a θa of -500
abbrev frozen : (isotherm : ℕ) → ℕ
frozen isotherm = field_refusal (set (dried 2500 isotherm) 4 4294966796)

-- with another field set anew, where soil dries out and where it does not

abbrev misplaced : (field word isotherm : ℕ) → ℕ
misplaced field word isotherm = field_refusal (set (dried 2500 isotherm) field word)

abbrev misplaced_in_moist : (field word : ℕ) → ℕ
misplaced_in_moist field word = field_refusal (set (dried 0 3500) field word)

pub record DrySoilEdges : Type 0 where
  -- 3: ρ is 0 or has its limits
  pub ratio_passes_3 : map (λ ρ. limit_refused (having 27 ρ)) (0 ∷ 1000 ∷ 5000 ∷ []) ≡ false ∷ false ∷ false ∷ []
  pub ratio_gets_3 : map (λ ρ. limit_refused (having 27 ρ)) (1 ∷ 999 ∷ 5001 ∷ 4294967295 ∷ []) ≡ true ∷ true ∷ true ∷ true ∷ []
  -- and θx has its own, from -40 to 250 °C, whatever ρ is
  pub least_isotherm : map (λ ρ. limit_refused (dried ρ 4294963296)) (0 ∷ 2500 ∷ []) ≡ false ∷ false ∷ []
  pub below_isotherm : map (λ ρ. limit_refused (dried ρ 4294963295)) (0 ∷ 2500 ∷ []) ≡ true ∷ true ∷ []
  pub most_isotherm : map (λ ρ. limit_refused (dried ρ 25000)) (0 ∷ 2500 ∷ []) ≡ false ∷ false ∷ []
  pub above_isotherm : map (λ ρ. limit_refused (dried ρ 25001)) (0 ∷ 2500 ∷ []) ≡ true ∷ true ∷ []
  pub isotherm_by_3 : map (λ ρ. field_refusal (dried ρ 25001)) (0 ∷ 2500 ∷ []) ≡ 3 ∷ 3 ∷ []
  -- 4: ρ is spared; θx is zero where ρ is 0, and there 4 is its first refusal within the limits
  pub ratio_passes_4 : map (λ ρ. stray_refused (dried ρ 0)) (0 ∷ 1 ∷ 2500 ∷ 4294967295 ∷ []) ≡ false ∷ false ∷ false ∷ false ∷ []
  pub moist_gets_4 :
      map (λ isotherm. field_refusal (dried 0 isotherm)) (1 ∷ 3500 ∷ 25000 ∷ 4294963296 ∷ 4294967295 ∷ [])
      ≡ 4 ∷ 4 ∷ 4 ∷ 4 ∷ 4 ∷ []
  pub dry_passes_4 :
      map (λ isotherm. stray_refused (dried 2500 isotherm)) (1 ∷ 3500 ∷ 25000 ∷ 4294967295 ∷ [])
      ≡ false ∷ false ∷ false ∷ false ∷ []
  -- and of this 4 and each other refusal of the fields that it can meet the earlier
  pub arrangement_before_stray : misplaced_in_moist 0 8 ≡ 1
  pub conductor_before_stray : misplaced_in_moist 1 9 ≡ 2
  pub limit_before_stray : misplaced_in_moist 20 99 ≡ 3
  pub stray_before_geometry : misplaced_in_moist 7 1849 ≡ 4
  pub stray_before_heat : misplaced_in_moist 16 9001 ≡ 4
  pub stray_before_metal : field_refusal (set wrong_metal 28 3500) ≡ 4
  -- 31: θx is at least θa, which is 2000, and at most θc, which is 9000, with any ρ but 0
  pub at_ambient : map (λ ρ. isotherm_refused (dried ρ 2000)) (1000 ∷ 2500 ∷ 5000 ∷ []) ≡ false ∷ false ∷ false ∷ []
  pub below_ambient : map (λ ρ. isotherm_refused (dried ρ 1999)) (1000 ∷ 2500 ∷ 5000 ∷ []) ≡ true ∷ true ∷ true ∷ []
  pub at_conductor : map (λ ρ. isotherm_refused (dried ρ 9000)) (1000 ∷ 2500 ∷ 5000 ∷ []) ≡ false ∷ false ∷ false ∷ []
  pub above_conductor : map (λ ρ. isotherm_refused (dried ρ 9001)) (1000 ∷ 2500 ∷ 5000 ∷ []) ≡ true ∷ true ∷ true ∷ []
  pub moist_passes_31 : isotherm_refused three_cores ≡ false
  pub dry_passes : field_refusal dry_soil ≡ 0
  -- below 0 °C: with a θa of -500, θx may be -500, -300 or 0, and not -501. The words of the first two are 4294966796 and 4294966996.
  pub frost_passes : map frozen (4294966796 ∷ 4294966996 ∷ 0 ∷ 9000 ∷ []) ≡ 0 ∷ 0 ∷ 0 ∷ 0 ∷ []
  pub frost_gets_31 : map frozen (4294966795 ∷ 9001 ∷ []) ≡ 31 ∷ 31 ∷ []
  -- and so in each arrangement
  pub passes_in_each : map (λ x. field_refusal (set (set x 27 2500) 28 3500)) each ≡ replicate 7 0
  pub refused_in_each : map (λ x. field_refusal (set (set x 27 1000) 28 9001)) each ≡ replicate 7 31
  -- of two the earlier, on both sides of θx: 1 to 6 before 31
  pub arrangement_before_isotherm : map (misplaced 0 8) (1999 ∷ 9001 ∷ []) ≡ 1 ∷ 1 ∷ []
  pub conductor_before_isotherm : map (misplaced 1 9) (1999 ∷ 9001 ∷ []) ≡ 2 ∷ 2 ∷ []
  pub loss_voltage_before_isotherm : map (misplaced 26 300001) (1999 ∷ 9001 ∷ []) ≡ 3 ∷ 3 ∷ []
  pub ratio_before_isotherm : map (misplaced 27 999) (1999 ∷ 9001 ∷ []) ≡ 3 ∷ 3 ∷ []
  pub stray_before_isotherm : map (misplaced 17 1) (1999 ∷ 9001 ∷ []) ≡ 4 ∷ 4 ∷ []
  pub geometry_before_isotherm : map (misplaced 7 1849) (1999 ∷ 9001 ∷ []) ≡ 5 ∷ 5 ∷ []
  pub heat_before_isotherm : map (misplaced 16 9001) (1999 ∷ 9001 ∷ []) ≡ 6 ∷ 6 ∷ []
  -- and 31 before 7
  pub metal_alone : field_refusal (set (set wrong_metal 27 2500) 28 3500) ≡ 7
  pub isotherm_before_metal : field_refusal (set (set wrong_metal 27 2500) 28 9001) ≡ 31
  pub isotherm_before_metals : field_refusal (set (set aluminium 27 2500) 28 1499) ≡ 31

pub dry_soil_edges : DrySoilEdges
unfolding or_refused field_refusals conductor_refused limit_refused conductor_limits alternating_limits thermal_limits moist
    further_limits isotherm_unused stray_refused geometry_refused heat_refused isotherm_refused sun_refused metal_refused
    direct_voltage_refused arrangement_of no_arrangement both_ends one_point sl_type armour_limits common_sheath axis_limits no_armour
    armourless no_alternating direct_current
dry_soil_edges =
    record {
      ratio_passes_3 = refl;
      ratio_gets_3 = refl;
      least_isotherm = refl;
      below_isotherm = refl;
      most_isotherm = refl;
      above_isotherm = refl;
      isotherm_by_3 = refl;
      ratio_passes_4 = refl;
      moist_gets_4 = refl;
      dry_passes_4 = refl;
      arrangement_before_stray = refl;
      conductor_before_stray = refl;
      limit_before_stray = refl;
      stray_before_geometry = refl;
      stray_before_heat = refl;
      stray_before_metal = refl;
      at_ambient = refl;
      below_ambient = refl;
      at_conductor = refl;
      above_conductor = refl;
      moist_passes_31 = refl;
      dry_passes = refl;
      frost_passes = refl;
      frost_gets_31 = refl;
      passes_in_each = refl;
      refused_in_each = refl;
      arrangement_before_isotherm = refl;
      conductor_before_isotherm = refl;
      loss_voltage_before_isotherm = refl;
      ratio_before_isotherm = refl;
      stray_before_isotherm = refl;
      geometry_before_isotherm = refl;
      heat_before_isotherm = refl;
      metal_alone = refl;
      isotherm_before_metal = refl;
      isotherm_before_metals = refl;
    }

-- what stage 10 takes of dry soil: T4, the permitted rise, E and dd
abbrev values : List ℕ → List ℕ
values x = soil_T4 x ∷ permitted_of x ∷ E x ∷ (numbers_of x).dd ∷ []

-- a cable of arrangement 3 whose sheath has too little resistance for refusal 9, and one of 6 with too much current for 11

abbrev pub few_eddies : List ℕ
few_eddies = set (set trefoil_one_point 15 1000) 27 2500

abbrev pub cooled : List ℕ
cooled = set (set (set (set dry_soil 2 1000) 5 5000) 22 1000) 25 10000

pub record DrySoilValues : Type 0 where
  -- T4, the permitted rise, E and dd: with a ρ of 1000 as with none, wherever θx lies; with larger ones, where θx lies at its ends
  pub none : values three_cores ≡ 869665000 ∷ 70000000000 ∷ 3161843911640 ∷ 167999416 ∷ []
  pub one :
      map (λ isotherm. values (dried 1000 isotherm)) (2000 ∷ 3500 ∷ 9000 ∷ [])
      ≡ replicate 3 (869665000 ∷ 70000000000 ∷ 3161843911640 ∷ 167999416 ∷ [])
  pub one_more : values (dried 1001 3500) ≡ 870534665 ∷ 70015000000 ∷ 3164453380265 ∷ 168147217 ∷ []
  pub at_ambient : values (dried 5000 2000) ≡ 4348325000 ∷ 70000000000 ∷ 13599718415242 ∷ 759204918 ∷ []
  pub at_conductor : values (dried 5000 9000) ≡ 4348325000 ∷ 350000000000 ∷ 13599718415242 ∷ 759204918 ∷ []
  -- with a θa of -500, and a θx of -500, -300 and 3500
  pub frost :
      map (λ isotherm. permitted_of (set (dried 2500 isotherm) 4 4294966796)) (4294966796 ∷ 4294966996 ∷ 3500 ∷ [])
      ≡ 95000000000 ∷ 98000000000 ∷ 155000000000 ∷ []
  -- 10 takes the permitted rise with what dry soil adds: dd is above nine tenths of 70 K, and at 175391 V not above those of 92.5 K
  pub at_share : values (set dry_soil 10 175391) ≡ 2174162500 ∷ 92500000000 ∷ 7076046850490 ∷ 83249986155 ∷ []
  pub passes_10 : (rate_of (set dry_soil 10 175391)).number ≡ 0
  pub gets_10 : (rate_of (set dry_soil 10 175392)).number ≡ 10
  -- 8 to 11, and 31 before each
  pub skin_alone : (rate_of (set dry_soil 5 5000)).number ≡ 8
  pub isotherm_before_skin : (rate_of (set cold_isotherm 5 5000)).number ≡ 31
  pub eddy_alone : (rate_of (set few_eddies 28 3500)).number ≡ 9
  pub isotherm_before_eddy : (rate_of (set few_eddies 28 9001)).number ≡ 31
  pub dielectric_alone : (rate_of (set dry_soil 10 300000)).number ≡ 10
  pub isotherm_before_dielectric : (rate_of (set cold_isotherm 10 300000)).number ≡ 31
  pub current_alone : (rate_of (set cooled 28 3500)).number ≡ 11
  pub isotherm_before_current : (rate_of (set cooled 28 1999)).number ≡ 31

pub dry_soil_values : DrySoilValues
unfolding rated sheet_of refused loaded judged or_refused field_refusals conductor_refused limit_refused conductor_limits
    alternating_limits thermal_limits moist further_limits isotherm_unused stray_refused geometry_refused heat_refused isotherm_refused
    sun_refused metal_refused direct_voltage_refused arrangement_of one_point common_sheath axis_limits no_armour armourless R_of Wd_of
    skin_refused eddy_refused dielectric_refused current_refused R' Rs B zs zp ys G yp R loss_counts Wd rise_of isotherm_rise_of soil_T4
    permitted_of solar_rise_of d0 N E current_of soil_ratio soil_resistance permitted_rise conductor_metal temperature_factor resistance
    reactance skin_reactance skin_ratio skin_ratio_squared factor skin_factor spacing_ratio proximity_h proximity_g proximity_factor
    ac_resistance log_low thirteen_terms series first_power doubled octaves doublings dielectric_loss dielectric_resistance
    dielectric_rise solar_rise current_rise unit_rise rating root pi_high ln2_low tera up down common_loss axis_ratio axis_ratio_squared
    common_ratio common_ratio_squared is_first first_formula second_formula
dry_soil_values =
    record {
      none = refl;
      one = refl;
      one_more = refl;
      at_ambient = refl;
      at_conductor = refl;
      frost = refl;
      at_share = refl;
      passes_10 = number _ refl;
      gets_10 = number _ refl;
      skin_alone = number _ refl;
      isotherm_before_skin = number _ refl;
      eddy_alone = number _ refl;
      isotherm_before_eddy = number _ refl;
      dielectric_alone = number _ refl;
      isotherm_before_dielectric = number _ refl;
      current_alone = number _ refl;
      isotherm_before_current = number _ refl;
    }
