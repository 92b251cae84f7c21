-- Arrangement 7 at the edges of the refusals, each at equality and one beyond: what 3 has limits for and what 4 asks to be zero, what is
-- left of 5 and 6, and 33; of 33 and each other refusal, the earlier; that 8 and 9 are not tried, and what 10 weighs; and the numbers of
-- stage 10, also where fields are not zero that only an alternating current has. A definition that moves one is refused here. Assumes
-- nothing.
use Rattle.std.specs.Prelude.{◌≡◌, refl, Bool, true, false, List, [], ◌∷◌, map, ℕ, ◌+◌, replicate, set}
use Rattle.std.proofs.Common.{ap, sym, ◌∙◌}
use Rattle.exact.specs.Rounding.{up, down}
use Rattle.exact.specs.Root.{root}
use Rattle.formulas.specs.Constants.{tera, pi_high, ln2_low}
use Rattle.bools.specs.First.{or_refused}
use Rattle.formulas.specs.Tables.{conductor_metal}
use Rattle.formulas.specs.Resistance.{temperature_factor, resistance}
use Rattle.formulas.specs.Reactance.{reactance}
use Rattle.formulas.specs.Skin.{skin_reactance, skin_ratio, skin_ratio_squared, factor, skin_factor}
use Rattle.formulas.specs.Proximity.{spacing_ratio, proximity_h, proximity_g, proximity_factor, ac_resistance}
use Rattle.formulas.specs.Logarithm.{doublings, octaves, doubled, series, first_power, thirteen_terms, log_low}
use Rattle.formulas.specs.Soil.{soil_ratio, soil_resistance, permitted_rise}
use Rattle.formulas.specs.Sun.{solar_rise}
use Rattle.formulas.specs.Dielectric.{dielectric_loss, dielectric_resistance, dielectric_rise, current_rise}
use Rattle.formulas.specs.Rating.{unit_rise, rating}
use Rattle.formulas.specs.Refusals.{skin_refused, eddy_refused, dielectric_refused, current_refused}
use Rattle.fields.specs.Fields as Field
use Rattle.rating.specs.Values.{
  R',
  Rs,
  B,
  zs,
  zp,
  ys,
  G,
  yp,
  R,
  loss_counts,
  Wd,
  rise_of,
  isotherm_rise_of,
  soil_T4,
  permitted_of,
  solar_rise_of,
}
use Rattle.rating.specs.Arrangement.{axis_limits, no_armour, armourless}
use Rattle.rating.specs.BothEnds.{both_ends}
use Rattle.rating.specs.OnePoint.{one_point}
use Rattle.rating.specs.SlType.{armour_limits, sl_type}
use Rattle.rating.specs.CommonSheath.{common_sheath}
use Rattle.rating.specs.DirectCurrent.{no_alternating, direct_current}
use Rattle.rating.specs.Arrangements.{no_arrangement, arrangement_of}
use Rattle.rating.specs.Stage10.{numbers_of, d0, N, E, current_of}
use Rattle.rating.specs.StageRefusals as Stage
use Rattle.rating.specs.Rate.{refused, sheet_of, rated, loaded, judged, rate_of, rate_of_is}
use Rattle.rating.specs.Current.{R_of, Wd_of}
use Rattle.rating.specs.FieldRefusals.{
  arrangement_refused,
  conductor_refused,
  limit_refused,
  conductor_limits,
  alternating_limits,
  thermal_limits,
  moist,
  further_limits,
  isotherm_unused,
  stray_refused,
  geometry_refused,
  heat_refused,
  isotherm_refused,
  sun_refused,
  metal_refused,
  direct_voltage_refused,
  field_refusals,
  field_refusal,
}
use Rattle.rating.proofs.Laws.Answers.{trefoil, cable, feeder, feeder_alternating, feeder_dry, feeder_sunlit, feeder_over}
use Rattle.rating.proofs.Laws.Edges.{each_alternating, wrong_metal}
use Rattle.rating.proofs.Laws.DrySoilEdges.{few_eddies}
use Rattle.rating.proofs.Laws.First.{number}

-- the d.c. feeder, with one field or two set anew

abbrev fed : (field word : ℕ) → List ℕ
fed field word = set feeder field word

abbrev fed_both : (field word field' word' : ℕ) → List ℕ
fed_both field word field' word' = set (fed field word) field' word'

-- at 5001 V, with another field set anew
abbrev over : (field word : ℕ) → ℕ
over field word = field_refusal (set feeder_over field word)

-- the fields that it does not have: 2, 7 and 11 to 21
abbrev zero_fields : List ℕ
zero_fields = 2 ∷ 7 ∷ 11 ∷ 12 ∷ 13 ∷ 14 ∷ 15 ∷ 16 ∷ 17 ∷ 18 ∷ 19 ∷ 20 ∷ 21 ∷ []

-- what 3 says of a field at four words
abbrev limits : (field below least most above : ℕ) → List Bool
limits field below least most above = map (λ word. limit_refused (fed field word)) (below ∷ least ∷ most ∷ above ∷ [])

-- of two limits and one beyond each
abbrev ends : List Bool
ends = true ∷ false ∷ false ∷ true ∷ []

-- of a field from 0 to its limit
abbrev up_to : (field most above : ℕ) → List Bool
up_to field most above = map (λ word. limit_refused (fed field word)) (0 ∷ most ∷ above ∷ [])

abbrev upper_end : List Bool
upper_end = false ∷ false ∷ true ∷ []

pub record DirectEdges : Type 0 where
  -- 1: arrangement 7 is one, and 8 is none
  pub arrangements :
      map (λ k. arrangement_refused (fed 0 k)) (0 ∷ 1 ∷ 6 ∷ 7 ∷ 8 ∷ 4294967295 ∷ [])
      ≡ true ∷ false ∷ false ∷ false ∷ true ∷ true ∷ []
  pub passes : field_refusal feeder ≡ 0
  -- 2: as for all
  pub conductors : map (λ code. field_refusal (fed 1 code)) (0 ∷ 1 ∷ 8 ∷ 9 ∷ []) ≡ 2 ∷ 0 ∷ 0 ∷ 2 ∷ []
  -- 3: fields 3 to 6, 8 to 10 and 22 to 29 have the limits that they have in every arrangement
  pub conductor_temperature : limits 3 3999 4000 25000 25001 ≡ ends
  pub ambient_temperature : limits 4 4294963295 4294963296 6000 6001 ≡ ends
  pub conductor_resistance : limits 5 4999 5000 20000000 20000001 ≡ ends
  pub conductor_diameter : limits 6 99 100 10000 10001 ≡ ends
  pub screen_diameter : limits 8 99 100 20000 20001 ≡ ends
  pub insulation_diameter : limits 9 99 100 30000 30001 ≡ ends
  pub voltage : up_to 10 300000 300001 ≡ upper_end
  pub t1 : limits 22 999 1000 10000000 10000001 ≡ ends
  pub t2 : up_to 23 10000000 10000001 ≡ upper_end
  pub t3 : up_to 24 10000000 10000001 ≡ upper_end
  pub t4 : limits 25 9999 10000 20000000 20000001 ≡ ends
  pub loss_voltage : up_to 26 300000 300001 ≡ upper_end
  pub dry_ratio : limits 27 999 1000 5000 5001 ≡ ends
  pub isotherm : limits 28 4294963295 4294963296 25000 25001 ≡ ends
  pub solar_heat : up_to 29 200000 200001 ≡ upper_end
  -- and the zero fields have none, whatever stands there
  pub zero_fields_pass_3 : map (λ field. limit_refused (fed field 1)) zero_fields ≡ replicate 13 false
  pub last_words_pass_3 : map (λ field. limit_refused (fed field 4294967295)) zero_fields ≡ replicate 13 false
  -- 4 has them: with 1, with a word that an alternating current may have, and with the last
  pub ones_get_4 : map (λ field. field_refusal (fed field 1)) zero_fields ≡ replicate 13 4
  pub words_get_4 : map (λ field. field_refusal (fed field (Field.word cable field))) zero_fields ≡ replicate 13 4
  pub last_words_get_4 : map (λ field. field_refusal (fed field 4294967295)) zero_fields ≡ replicate 13 4
  pub isotherm_gets_4 : field_refusal (fed 28 3500) ≡ 4
  -- where the current alternates, fields 2, 7 and 11 to 16 have their limits still: 0 is beyond those of each but a temperature
  pub zeros_get_3 :
      map (λ field. field_refusal (set trefoil field 0)) (2 ∷ 7 ∷ 11 ∷ 12 ∷ 13 ∷ 14 ∷ 15 ∷ []) ≡ replicate 7 3
  pub sheath_temperature :
      map (λ θ. field_refusal (set trefoil 16 θ)) (4294963295 ∷ 4294963296 ∷ 0 ∷ 9000 ∷ 25001 ∷ []) ≡ 3 ∷ 0 ∷ 0 ∷ 0 ∷ 3 ∷ []
  pub no_frequency_gets_3 : map (λ x. field_refusal (set x 2 0)) each_alternating ≡ replicate 6 3
  -- so neither of the two cables is one of the other current
  pub direct_as_alternating : map (λ k. field_refusal (fed 0 k)) (1 ∷ 2 ∷ 3 ∷ 4 ∷ 5 ∷ 6 ∷ []) ≡ replicate 6 3
  pub alternating_as_direct : map (λ x. field_refusal (set x 0 7)) each_alternating ≡ replicate 6 4
  -- 5: dc = ds = 2630 passes, and 100 Di = 105 ds
  pub above_ds : map (λ dc. field_refusal (fed 6 dc)) (2630 ∷ 2631 ∷ []) ≡ 0 ∷ 5 ∷ []
  pub least_insulation : map (λ di. field_refusal (fed_both 8 2640 9 di)) (2772 ∷ 2771 ∷ []) ≡ 0 ∷ 5 ∷ []
  pub most_screen : field_refusal (fed_both 8 2641 9 2772) ≡ 5
  -- Di is held against no sheath; where the current alternates it may be as large as d
  pub most_insulation : field_refusal (fed 9 30000) ≡ 0
  pub insulation_at_sheath : map (λ x. field_refusal (set x 9 (Field.sheath_diameter x))) each_alternating ≡ replicate 6 0
  pub insulation_above_sheath : map (λ x. field_refusal (set x 9 (Field.sheath_diameter x + 1))) each_alternating ≡ replicate 6 5
  -- 6: θc - θa is 500 or more, and field 16 is 0, at every θc
  pub rise : map (λ θ. field_refusal (fed_both 4 6000 3 θ)) (6500 ∷ 6499 ∷ []) ≡ 0 ∷ 6 ∷ []
  pub coolest_conductor : field_refusal (fed 3 4000) ≡ 0
  -- 31 and 32: as for all
  pub isotherms :
      map (λ isotherm. field_refusal (fed_both 27 2500 28 isotherm)) (1999 ∷ 2000 ∷ 9000 ∷ 9001 ∷ []) ≡ 31 ∷ 0 ∷ 0 ∷ 31 ∷ []
  pub dry_in_sun : map (λ heat. field_refusal (set feeder_dry 29 heat)) (0 ∷ 1 ∷ 200000 ∷ []) ≡ 0 ∷ 32 ∷ 32 ∷ []
  pub sun_alone : field_refusal feeder_sunlit ≡ 0
  -- 7: it asks for no metal
  pub metals_pass_7 : map (λ metal. metal_refused (fed 14 metal)) (0 ∷ 1 ∷ 2 ∷ 6 ∷ []) ≡ replicate 4 false
  -- 33: U0 is at most 5000; and with an alternating current it may be more
  pub voltages :
      map (λ u0. field_refusal (fed 10 u0)) (0 ∷ 4999 ∷ 5000 ∷ 5001 ∷ 300000 ∷ []) ≡ 0 ∷ 0 ∷ 0 ∷ 33 ∷ 33 ∷ []
  pub alternating_passes_33 : map (λ x. field_refusal (set x 10 5001)) each_alternating ≡ replicate 6 0
  pub highest_passes_33 : map (λ x. direct_voltage_refused (set x 10 300000)) each_alternating ≡ replicate 6 false
  -- of two the earlier: 2 to 6, 31 and 32 before 33. 7 is not given in arrangement 7.
  pub conductor_before_voltage : over 1 9 ≡ 2
  pub limit_before_voltage : over 26 300001 ≡ 3
  pub voltage_limit_before_voltage : field_refusal (fed 10 300001) ≡ 3
  pub zero_fields_before_voltage : map (λ field. over field 1) zero_fields ≡ replicate 13 4
  pub isotherm_before_voltage : over 28 3500 ≡ 4
  pub geometry_before_voltage : over 6 2631 ≡ 5
  pub heat_before_voltage : field_refusal (set (set feeder_over 4 6000) 3 6499) ≡ 6
  pub cold_isotherm_before_voltage : field_refusal (set (set feeder_over 27 2500) 28 1999) ≡ 31
  pub sun_before_voltage : field_refusal (set (set (set feeder_over 27 2500) 28 3500) 29 1) ≡ 32
  -- 1 before it, by a number that is no arrangement's; and 7 where the current alternates
  pub arrangement_before_voltage : map (over 0) (0 ∷ 8 ∷ []) ≡ 1 ∷ 1 ∷ []
  pub metal_alone : field_refusal (set wrong_metal 10 5001) ≡ 7

pub direct_edges : DirectEdges
unfolding or_refused field_refusals conductor_refused limit_refused conductor_limits alternating_limits thermal_limits moist
    further_limits isotherm_unused stray_refused geometry_refused heat_refused isotherm_refused sun_refused metal_refused
    direct_voltage_refused arrangement_of no_arrangement both_ends one_point sl_type armour_limits common_sheath axis_limits no_armour
    armourless no_alternating direct_current
direct_edges =
    record {
      arrangements = refl;
      passes = refl;
      conductors = refl;
      conductor_temperature = refl;
      ambient_temperature = refl;
      conductor_resistance = refl;
      conductor_diameter = refl;
      screen_diameter = refl;
      insulation_diameter = refl;
      voltage = refl;
      t1 = refl;
      t2 = refl;
      t3 = refl;
      t4 = refl;
      loss_voltage = refl;
      dry_ratio = refl;
      isotherm = refl;
      solar_heat = refl;
      zero_fields_pass_3 = refl;
      last_words_pass_3 = refl;
      ones_get_4 = refl;
      words_get_4 = refl;
      last_words_get_4 = refl;
      isotherm_gets_4 = refl;
      zeros_get_3 = refl;
      sheath_temperature = refl;
      no_frequency_gets_3 = refl;
      direct_as_alternating = refl;
      alternating_as_direct = refl;
      above_ds = refl;
      least_insulation = refl;
      most_screen = refl;
      most_insulation = refl;
      insulation_at_sheath = refl;
      insulation_above_sheath = refl;
      rise = refl;
      coolest_conductor = refl;
      isotherms = refl;
      dry_in_sun = refl;
      sun_alone = refl;
      metals_pass_7 = refl;
      voltages = refl;
      alternating_passes_33 = refl;
      highest_passes_33 = refl;
      conductor_before_voltage = refl;
      limit_before_voltage = refl;
      voltage_limit_before_voltage = refl;
      zero_fields_before_voltage = refl;
      isotherm_before_voltage = refl;
      geometry_before_voltage = refl;
      heat_before_voltage = refl;
      cold_isotherm_before_voltage = refl;
      sun_before_voltage = refl;
      arrangement_before_voltage = refl;
      metal_alone = refl;
    }

-- a feeder with little resistance, thick and cooled, whose rating is at the limit of 11
abbrev thick : (t4 : ℕ) → List ℕ
thick t4 = set (set (set (fed 5 5009) 22 1000) 24 0) 25 t4

-- what stage 10 takes and gives: R, S, W and dd, and n; d0, N and E
abbrev numbers : List ℕ → List ℕ
numbers x =
    let ν = numbers_of x in
    ν.n ∷ ν.R ∷ ν.S ∷ ν.W ∷ ν.dd ∷ d0 x ∷ N x ∷ E x ∷ []

-- a case whose fields of an alternating current are not zero, as arrangement 7. Refusal 4 refuses it, so that what its values show is what
-- the definitions themselves leave out.
abbrev as_direct : List ℕ → List ℕ
as_direct x = set x 0 7

pub record DirectValues : Type 0 where
  -- n is 1 and R is R'; S, W and dd are 0; the sun alone is in d0
  pub feeder_numbers : numbers feeder ≡ 1 ∷ 466686600000 ∷ 0 ∷ 0 ∷ 0 ∷ 0 ∷ 70000000000 ∷ 931806999771 ∷ []
  pub dry_numbers : numbers feeder_dry ≡ 1 ∷ 466686600000 ∷ 0 ∷ 0 ∷ 0 ∷ 0 ∷ 92500000000 ∷ 2185883264455 ∷ []
  pub sunlit_numbers : numbers feeder_sunlit ≡ 1 ∷ 466686600000 ∷ 0 ∷ 0 ∷ 0 ∷ 6400000000 ∷ 63600000000 ∷ 282430796649 ∷ []
  -- T2 is in E, as for all
  pub t2_in_E : E (fed 23 40000) ≡ 950474463771
  -- and so, whatever stands in the zero fields, on the sheet too
  pub numbers_of_direct :
      numbers (as_direct feeder_alternating) ≡ 1 ∷ 466686600000 ∷ 0 ∷ 0 ∷ 0 ∷ 0 ∷ 70000000000 ∷ 931806999771 ∷ []
  pub no_loss_counts : Wd_of (set (as_direct feeder_alternating) 26 0) ≡ 0
  pub sheet_of_direct : sheet_of (as_direct feeder_alternating) ≡ sheet_of feeder
  pub sheet_of_sl_type :
      sheet_of (as_direct cable)
      ≡ 1556758000000 ∷ 0 ∷ 0 ∷ 0 ∷ 0 ∷ 0 ∷ 1556758000000 ∷ 0 ∷ 0 ∷ 0 ∷ 0 ∷ 0 ∷ 1401082200000 ∷ []
  -- field 26 and U0 move nothing
  pub below_loss_voltage : rate_of (fed 26 300000) ≡ rate_of feeder
  pub without_voltage : rate_of (fed 10 0) ≡ rate_of feeder
  pub most_voltage : rate_of (fed 10 5000) ≡ rate_of feeder
  -- 8 and 9 are not tried: with little resistance, and with the fields of an alternating current
  pub least_resistance : (rate_of (fed 5 5000)).number ≡ 0
  pub skin_alternating : (rate_of (set feeder_alternating 5 5000)).number ≡ 8
  pub skin_not_tried : Stage.skin_refused (as_direct (set feeder_alternating 5 5000)) ≡ false
  pub eddies_alternating : Stage.eddy_refused few_eddies ≡ true
  pub eddies_not_tried : Stage.eddy_refused (as_direct few_eddies) ≡ false
  -- 10 by the sun alone: at nine tenths of the permitted rise, 10^-9 K beyond, and by 1 mW/m
  pub at_share : numbers (fed_both 25 400000 29 157500) ≡ 1 ∷ 466686600000 ∷ 0 ∷ 0 ∷ 0 ∷ 63000000000 ∷ 7000000000 ∷ 282430796649 ∷ []
  pub passes_10 : (rate_of (fed_both 25 400000 29 157500)).number ≡ 0
  pub beyond_share : d0 (fed_both 25 1324949 29 47549) ≡ 63000000001
  pub gets_10 : (rate_of (fed_both 25 1324949 29 47549)).number ≡ 10
  pub heat_gets_10 : (rate_of (fed_both 25 400000 29 157501)).number ≡ 10
  -- and not by a dielectric loss, in moist soil and in dry
  pub no_loss_in_share : map d0 (fed 10 5000 ∷ set feeder_dry 10 5000 ∷ set (as_direct feeder_alternating) 26 0 ∷ []) ≡ 0 ∷ 0 ∷ 0 ∷ []
  -- 11: a rating of 5000000 mA passes
  pub most_current : (rate_of (thick 437392)).rating ≡ 5000000
  pub gets_11 : (rate_of (thick 437391)).number ≡ 11
  -- 33 before 10 and 11
  pub voltage_before_share : (rate_of (set (fed_both 25 400000 29 157501) 10 5001)).number ≡ 33
  pub voltage_before_current : (rate_of (set (thick 437391) 10 5001)).number ≡ 33

pub direct_values : DirectValues
unfolding rated sheet_of refused loaded judged or_refused field_refusals conductor_refused limit_refused conductor_limits
    alternating_limits thermal_limits moist further_limits isotherm_unused stray_refused geometry_refused heat_refused isotherm_refused
    sun_refused metal_refused direct_voltage_refused arrangement_of both_ends one_point no_armour armourless no_alternating direct_current
    R_of Wd_of skin_refused eddy_refused dielectric_refused current_refused R' Rs B zs zp ys G yp R loss_counts Wd rise_of
    isotherm_rise_of soil_T4 permitted_of solar_rise_of d0 N E current_of soil_ratio soil_resistance permitted_rise conductor_metal
    temperature_factor resistance reactance skin_reactance skin_ratio skin_ratio_squared factor skin_factor spacing_ratio proximity_h
    proximity_g proximity_factor ac_resistance log_low thirteen_terms series first_power doubled octaves doublings dielectric_loss
    dielectric_resistance dielectric_rise solar_rise current_rise unit_rise rating root pi_high ln2_low tera up down
direct_values =
    record {
      feeder_numbers = refl;
      dry_numbers = refl;
      sunlit_numbers = refl;
      t2_in_E = refl;
      numbers_of_direct = refl;
      no_loss_counts = refl;
      sheet_of_direct = refl;
      sheet_of_sl_type = refl;
      below_loss_voltage = rate_of_is (fed 26 300000) ∙ sym (rate_of_is feeder);
      without_voltage = rate_of_is (fed 10 0) ∙ sym (rate_of_is feeder);
      most_voltage = rate_of_is (fed 10 5000) ∙ sym (rate_of_is feeder);
      least_resistance = number _ refl;
      skin_alternating = number _ refl;
      skin_not_tried = refl;
      eddies_alternating = refl;
      eddies_not_tried = refl;
      at_share = refl;
      passes_10 = number _ refl;
      beyond_share = refl;
      gets_10 = number _ refl;
      heat_gets_10 = number _ refl;
      no_loss_in_share = refl;
      most_current = ap (λ a. a.rating) (rate_of_is (thick 437392));
      gets_11 = number _ refl;
      voltage_before_share = number _ refl;
      voltage_before_current = number _ refl;
    }
