-- The tests of the fields at the edges of an arrangement's own limits and relations, and of the voltage from which the dielectric loss
-- counts, each at equality and one beyond, and the first of two refusals where both are given. A definition that moves an edge is refused
-- here. Assumes nothing.
use Rattle.std.specs.Prelude.{◌≡◌, refl, true, false, List, [], ◌∷◌, map, ℕ, set}
use Rattle.exact.specs.Rounding.{up, down}
use Rattle.formulas.specs.Constants.{tera, pi_high, ln2_low}
use Rattle.bools.specs.First.{or_refused}
use Rattle.formulas.specs.Reactance.{reactance}
use Rattle.formulas.specs.Logarithm.{doublings, octaves, doubled, series, first_power, thirteen_terms, log_low}
use Rattle.formulas.specs.Soil.{soil_ratio, soil_resistance}
use Rattle.formulas.specs.Dielectric.{dielectric_loss, dielectric_resistance, dielectric_rise}
use Rattle.rating.specs.Values.{B, loss_counts, Wd, soil_T4}
use Rattle.rating.specs.Arrangement.{axis_limits, no_armour, armourless}
use Rattle.rating.specs.BothEnds.{both_ends}
use Rattle.rating.specs.OnePoint.{one_point}
use Rattle.rating.specs.CommonSheath.{common_sheath}
use Rattle.rating.specs.Arrangements.{no_arrangement, arrangement_of}
use Rattle.rating.specs.Stage10.{numbers_of}
use Rattle.rating.specs.Current.{R_of, Wd_of}
use Rattle.rating.specs.FieldRefusals.{
  arrangement_refused,
  conductor_refused,
  limit_refused,
  conductor_limits,
  alternating_limits,
  thermal_limits,
  moist,
  further_limits,
  isotherm_unused,
  stray_refused,
  geometry_refused,
  heat_refused,
  isotherm_refused,
  sun_refused,
  metal_refused,
  direct_voltage_refused,
  field_refusals,
  field_refusal,
}
use Rattle.rating.proofs.Laws.Answers.{trefoil, flat, trefoil_one_point, flat_one_point, cable, three_cores, feeder}

-- a cable of each arrangement, which no refusal refuses: of those whose current alternates, and of all

abbrev pub each_alternating : List (List ℕ)
each_alternating = trefoil ∷ flat ∷ trefoil_one_point ∷ flat_one_point ∷ cable ∷ three_cores ∷ []

abbrev pub each : List (List ℕ)
each = feeder ∷ each_alternating

-- that of arrangement 6, with one field or two set anew

abbrev pub having : (field word : ℕ) → List ℕ
having field word = set three_cores field word

abbrev pub having_both : (field word field' word' : ℕ) → List ℕ
having_both field word field' word' = set (having field word) field' word'

-- that of arrangement 3 with a sheath of aluminium
abbrev pub wrong_metal : List ℕ
wrong_metal = set trefoil_one_point 14 2

pub record CommonSheathEdges : Type 0 where
  -- 1: there is no arrangement 8
  pub six_passes_1 : arrangement_refused three_cores ≡ false
  pub eight_gets_1 : arrangement_refused (having 0 8) ≡ true
  -- 3: c has its limits
  pub least_c : limit_refused (having 20 100) ≡ false
  pub below_c : limit_refused (having 20 99) ≡ true
  pub most_c : limit_refused (having 20 50000) ≡ false
  pub above_c : limit_refused (having 20 50001) ≡ true
  -- 4: the armour's fields are stray, and c is not; in arrangement 1 it is
  pub c_passes_4 : stray_refused three_cores ≡ false
  pub armour_gets_4 : map (λ field. stray_refused (having field 1)) (17 ∷ 18 ∷ 19 ∷ 21 ∷ []) ≡ true ∷ true ∷ true ∷ true ∷ []
  pub single_core_c_gets_4 : stray_refused (set trefoil 20 100) ≡ true
  -- 5: s may be as small as dc, and 2c as large as d, whatever s is
  pub least_s : geometry_refused (having 7 1850) ≡ false
  pub below_s : geometry_refused (having 7 1849) ≡ true
  pub most_2c : geometry_refused (having_both 20 3688 13 7376) ≡ false
  pub above_2c : geometry_refused (having_both 20 3688 13 7375) ≡ true
  pub above_2c_by_c : geometry_refused (having_both 20 3689 13 7376) ≡ true
  -- 7: any metal
  pub metals_pass_7 :
      map (λ metal. metal_refused (having 14 metal)) (1 ∷ 2 ∷ 3 ∷ 4 ∷ 5 ∷ 6 ∷ [])
      ≡ false ∷ false ∷ false ∷ false ∷ false ∷ false ∷ []
  -- of two the earlier
  pub none_given : field_refusal three_cores ≡ 0
  pub conductor_before_limit : field_refusal (having_both 20 99 1 9) ≡ 2
  pub limit_before_stray : field_refusal (having_both 20 99 21 1) ≡ 3
  pub limit_before_geometry : field_refusal (having 20 50001) ≡ 3
  pub stray_before_geometry : field_refusal (having_both 20 3689 17 6) ≡ 4
  pub geometry_before_heat : field_refusal (having_both 20 3689 16 9001) ≡ 5

pub common_sheath_edges : CommonSheathEdges
unfolding or_refused field_refusals conductor_refused limit_refused conductor_limits alternating_limits thermal_limits moist
    further_limits isotherm_unused stray_refused geometry_refused heat_refused isotherm_refused sun_refused metal_refused
    direct_voltage_refused arrangement_of no_arrangement both_ends common_sheath axis_limits no_armour armourless
common_sheath_edges =
    record {
      six_passes_1 = refl;
      eight_gets_1 = refl;
      least_c = refl;
      below_c = refl;
      most_c = refl;
      above_c = refl;
      c_passes_4 = refl;
      armour_gets_4 = refl;
      single_core_c_gets_4 = refl;
      least_s = refl;
      below_s = refl;
      most_2c = refl;
      above_2c = refl;
      above_2c_by_c = refl;
      metals_pass_7 = refl;
      none_given = refl;
      conductor_before_limit = refl;
      limit_before_stray = refl;
      limit_before_geometry = refl;
      stray_before_geometry = refl;
      geometry_before_heat = refl;
    }

-- the same cable, whose U0 is 12000, with field 26 set anew

pub record LossVoltageEdges : Type 0 where
  -- 3: field 26 has its limits
  pub least_loss_voltage : limit_refused (having 26 0) ≡ false
  pub most_loss_voltage : limit_refused (having 26 300000) ≡ false
  pub above_loss_voltage : limit_refused (having 26 300001) ≡ true
  -- at equality the loss counts, one volt below not, one above it does
  pub at_voltage : loss_counts (having 26 12000) ≡ true
  pub at_voltage_loss : Wd (having 26 12000) ≡ 56650693262
  pub at_voltage_rise : (numbers_of (having 26 12000)).dd ≡ 167999416
  pub one_below : loss_counts (having_both 26 12000 10 11999) ≡ false
  pub one_below_loss : Wd (having_both 26 12000 10 11999) ≡ 0
  pub one_below_rise : (numbers_of (having_both 26 12000 10 11999)).dd ≡ 0
  pub one_above : loss_counts (having_both 26 12000 10 12001) ≡ true
  pub one_above_loss : Wd (having_both 26 12000 10 12001) ≡ 56660135438
  pub one_above_rise : (numbers_of (having_both 26 12000 10 12001)).dd ≡ 168027417
  -- and so for a U0 of 0
  pub no_voltage_from_0 : loss_counts (having_both 26 0 10 0) ≡ true
  pub no_voltage_from_1 : loss_counts (having_both 26 1 10 0) ≡ false
  -- of two the earlier: field 26 by 3
  pub arrangement_before_limit : field_refusal (having_both 26 300001 0 8) ≡ 1
  pub conductor_before_limit : field_refusal (having_both 26 300001 1 9) ≡ 2
  pub limit_before_stray : field_refusal (having_both 26 300001 17 1) ≡ 3
  pub limit_before_geometry : field_refusal (having_both 26 300001 7 1849) ≡ 3
  pub limit_before_heat : field_refusal (having_both 26 300001 16 9001) ≡ 3
  pub metal_alone : field_refusal wrong_metal ≡ 7
  pub limit_before_metal : field_refusal (set wrong_metal 26 300001) ≡ 3

pub loss_voltage_edges : LossVoltageEdges
unfolding or_refused field_refusals conductor_refused limit_refused conductor_limits alternating_limits thermal_limits moist
    further_limits isotherm_unused stray_refused geometry_refused heat_refused isotherm_refused sun_refused metal_refused
    direct_voltage_refused arrangement_of no_arrangement one_point common_sheath axis_limits no_armour armourless loss_counts Wd B soil_T4
    soil_ratio soil_resistance R_of Wd_of dielectric_loss dielectric_resistance dielectric_rise reactance log_low thirteen_terms series
    first_power doubled octaves doublings pi_high ln2_low tera up down
loss_voltage_edges =
    record {
      least_loss_voltage = refl;
      most_loss_voltage = refl;
      above_loss_voltage = refl;
      at_voltage = refl;
      at_voltage_loss = refl;
      at_voltage_rise = refl;
      one_below = refl;
      one_below_loss = refl;
      one_below_rise = refl;
      one_above = refl;
      one_above_loss = refl;
      one_above_rise = refl;
      no_voltage_from_0 = refl;
      no_voltage_from_1 = refl;
      arrangement_before_limit = refl;
      conductor_before_limit = refl;
      limit_before_stray = refl;
      limit_before_geometry = refl;
      limit_before_heat = refl;
      metal_alone = refl;
      limit_before_metal = refl;
    }
