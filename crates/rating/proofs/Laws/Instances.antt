-- Demand 3 on a case of arrangement 5, a three-core SL type of 124 microhm/m at 19 kV which rates 457.106 A, with fractions chosen for pi,
-- ln 2 and the two logarithms; on cases of arrangements 3 and 6, which have one logarithm alone, one of them without dielectric loss, one
-- in soil that dries out and one in the sun; and on cases of arrangement 7, which has none of the four. So the premises of the theorems are
-- met. Assumes nothing.
use Rattle.std.specs.Prelude.{◌≡◌, refl, false, List, take, set, ℕ, ◌+◌, ◌*◌, ◌^◌}
use Rattle.std.proofs.Common.{sym, ap, subst, ◌∙◌, lit<, suc-ne-zero, true≢false}
use Rattle.bools.proofs.Laws.Tests.{other_outcome}
use Rattle.exact.specs.Rounding.{up, down}
use Rattle.exact.specs.Fraction.{Fraction, ◌over◌, whole, ◌+F◌, ◌*F◌, reciprocal, ◌≃F◌, ◌≤F◌, ◌<F◌}
use Rattle.exact.proofs.Laws.Fraction.{closed≤}
use Rattle.formulas.specs.Tables.{conductor_metal}
use Rattle.formulas.specs.Resistance.{temperature_factor, resistance}
use Rattle.formulas.specs.Reactance.{reactance*}
use Rattle.formulas.specs.Skin.{skin_reactance*, skin_ratio*, factor*, skin_factor*}
use Rattle.formulas.specs.Proximity.{spacing_ratio*, proximity_h*, proximity_g*, proximity_factor*, ac_resistance*}
use Rattle.formulas.specs.CommonSheath.{is_first, axis_ratio*, common_ratio*, first_formula*, second_formula*, common_loss*}
use Rattle.formulas.specs.Sun.{solar_rise}
use Rattle.formulas.specs.Dielectric.{dielectric_resistance, dielectric_loss*, dielectric_rise*}
use Rattle.formulas.specs.Rating.{unit_rise*, rise*}
use Rattle.formulas.specs.Soil.{soil_ratio, soil_resistance, permitted_rise}
use Rattle.formulas.proofs.Laws.Soil.{none_counts, one_counts}
use Rattle.formulas.specs.Constants.{tera, pi_low, pi_high, ln2_low, ln2_high}
use Rattle.formulas.specs.Logarithm.{doublings, octaves, doubled, series, first_power, thirteen_terms, log_low, log_high, IsLog}
use Rattle.fields.specs.Fields as Field
use Rattle.rating.specs.Values.{R', Rs, loss_counts, rise_of, isotherm_rise_of, soil_T4, permitted_of, solar_rise_of}
use Rattle.rating.specs.Chosen.{Chosen, B*, R*, Wd*}
use Rattle.rating.specs.Current.{R_of*, Wd_of*}
use Rattle.rating.specs.OnePoint.{one_point}
use Rattle.rating.specs.CommonSheath.{common_sheath}
use Rattle.rating.specs.DirectCurrent.{direct_current}
use Rattle.rating.specs.Arrangements.{arrangement_of, own}
use Rattle.rating.specs.Allowed.{Allowed}
use Rattle.rating.specs.Rate.{Answer, rated, rate_of}
use Rattle.rating.specs.Exact.{numbers_of*, exact_rise, d0*, E*}
use Rattle.rating.proofs.Laws.LossVoltage.{Counted, counted, Uncounted, uncounted, direct_lossless}
use Rattle.rating.proofs.Laws.Direct.{Direct, direct}
use Rattle.rating.proofs.Laws.Older.{Older, older}
use Rattle.rating.proofs.Laws.Moist.{AsMoist, AsMoist*, as_moist, as_moist*}
use Rattle.rating.proofs.Laws.DrySoil.{Dries, dries}
use Rattle.rating.proofs.Laws.Sun.{InShade, in_shade, sunlit_moist}
use Rattle.rating.proofs.Laws.Logarithms.{Promised, promised}
use Rattle.rating.proofs.Laws.Passed.{all_passed, rated_stages}
use Rattle.rating.proofs.Laws.Margin.{fit, safe, close, nearer}
use Rattle.rating.proofs.Laws.Answers.{
  trefoil,
  trefoil_one_point,
  cable,
  three_cores,
  low_voltage,
  low_voltage_counted,
  dry_soil,
  bridge,
  sunlit,
  sunlit_older,
  feeder,
  feeder_dry,
  feeder_sunlit,
  answered,
}

abbrev pub chosen : Chosen
chosen =
    record {
      pi = 314159265358 over 10 ^ 11;
      ln2 = 6931471805599 over 10 ^ 13;
      log_spacing = 741937344729 over 10 ^ 12;
      log_insulation = 721318057526 over 10 ^ 12;
    }

pub chosen_allowed : Allowed (own cable) cable chosen
unfolding pi_low pi_high log_low log_high thirteen_terms series first_power doubled octaves doublings ln2_low ln2_high tera up down
chosen_allowed =
    record {
      pi = λ alternates. record { at_least = closed≤ tt; at_most = closed≤ tt };
      ln2 = λ alternates. record { at_least = closed≤ tt; at_most = closed≤ tt };
      log_spacing = λ reactive. record { at_least = closed≤ tt; at_most = closed≤ tt };
      log_insulation = λ alternates. record { at_least = closed≤ tt; at_most = closed≤ tt };
    }

-- of a whole answer
number_and_rating : (x : List ℕ) {a : Answer} → rate_of x ≡ a → ((rate_of x).number ≡ a.number) × ((rate_of x).rating ≡ a.rating)
number_and_rating x is = (ap (λ a. a.number) is, ap (λ a. a.rating) is)

pub answer : ((rate_of cable).number ≡ 0) × ((rate_of cable).rating ≡ 457106)
answer = number_and_rating _ answered.sl_type_5

-- it passed every refusal, its answer is that of the stages, and stage 5's promises hold of both its logarithms

stages : rate_of cable ≡ rated cable
stages = rated_stages cable answer.0

logarithms : Promised cable
logarithms = promised cable (all_passed cable answer.0).fields

-- demand 3 at a rating that was computed
module _
    {x : List ℕ} {c : Chosen} (allowed : Allowed (own x) x c) {rating : ℕ}
    (answer_is : ((rate_of x).number ≡ 0) × ((rate_of x).rating ≡ rating)) where
  under_at : exact_rise x c (whole rating) ≤F whole (permitted_of x)
  under_at = subst (λ i. exact_rise x c (whole i) ≤F whole (permitted_of x)) answer_is.1 (safe x c allowed answer_is.0)

  over_at : whole (permitted_of x) <F exact_rise x c (whole (rating + 2))
  over_at = subst (λ i. whole (permitted_of x) <F exact_rise x c (whole (i + 2))) answer_is.1 (close x c allowed answer_is.0)

permitted : permitted_of cable ≡ 70000000000
unfolding permitted_of permitted_rise soil_ratio rise_of isotherm_rise_of
permitted = refl

under : exact_rise cable chosen (whole 457106) ≤F whole 70000000000
under = rw (← permitted) (under_at chosen_allowed answer)

over_5 : whole 70000000000 <F exact_rise cable chosen (whole (457106 + 2))
over_5 = rw (← permitted) (over_at chosen_allowed answer)

over_nearer : whole 70000000000 <F exact_rise cable chosen (457106 * 10000001 + 10000000 over 10000000)
over_nearer =
    subst (λ i. whole 70000000000 <F exact_rise cable chosen (i * 10000001 + 10000000 over 10000000)) answer.1
    (rw (← permitted) (nearer cable chosen chosen_allowed answer.0))

-- In arrangements 3 and 6 nothing is asked of what stands for the logarithm of 2s/d. In the case of 6, 2s is smaller than d.

abbrev without_spacing : Fraction → Chosen
without_spacing log =
    record { pi = 314159265358 over 10 ^ 11; ln2 = 6931471805599 over 10 ^ 13; log_spacing = 0 over 0; log_insulation = log }

without_spacing_allowed :
    (x : List ℕ) (log : Fraction) → (own x).reactive ≡ false → IsLog (Field.insulation_diameter x) (Field.screen_diameter x) log →
    Allowed (own x) x (without_spacing log)
unfolding pi_low pi_high ln2_low ln2_high tera
without_spacing_allowed x log not-reactive is-log =
    record {
      pi = λ alternates. record { at_least = closed≤ tt; at_most = closed≤ tt };
      ln2 = λ alternates. record { at_least = closed≤ tt; at_most = closed≤ tt };
      log_spacing = λ reactive. absurd (true≢false (sym reactive ∙ not-reactive));
      log_insulation = λ alternates. is-log;
    }

abbrev chosen_3 : Chosen
chosen_3 = without_spacing (606135803570 over 10 ^ 12)

allowed_3 : Allowed (own trefoil_one_point) trefoil_one_point chosen_3
unfolding arrangement_of one_point log_low log_high thirteen_terms series first_power doubled octaves doublings ln2_low ln2_high tera up
    down
allowed_3 = without_spacing_allowed trefoil_one_point _ refl (record { at_least = closed≤ tt; at_most = closed≤ tt })

answer_3 : ((rate_of trefoil_one_point).number ≡ 0) × ((rate_of trefoil_one_point).rating ≡ 1445739)
answer_3 = number_and_rating _ answered.one_point_3

under_3 : exact_rise trefoil_one_point chosen_3 (whole 1445739) ≤F whole (permitted_of trefoil_one_point)
under_3 = under_at allowed_3 answer_3

abbrev pub chosen_6 : Chosen
chosen_6 = without_spacing (443644018850 over 10 ^ 12)

three_cores_log : IsLog 3070 1970 (443644018850 over 10 ^ 12)
unfolding log_low log_high thirteen_terms series first_power doubled octaves doublings ln2_low ln2_high tera up down
three_cores_log = record { at_least = closed≤ tt; at_most = closed≤ tt }

pub allowed_6 : Allowed (own three_cores) three_cores chosen_6
unfolding arrangement_of common_sheath
allowed_6 = without_spacing_allowed three_cores _ refl three_cores_log

pub answer_6 : ((rate_of three_cores).number ≡ 0) × ((rate_of three_cores).rating ≡ 469955)
answer_6 = number_and_rating _ answered.common_sheath_6

under_6 : exact_rise three_cores chosen_6 (whole 469955) ≤F whole (permitted_of three_cores)
under_6 = under_at allowed_6 answer_6

over_6 : whole (permitted_of three_cores) <F exact_rise three_cores chosen_6 (whole (469955 + 2))
over_6 = over_at allowed_6 answer_6

-- the low-voltage cable, whose dielectric loss does not count

no_loss : Uncounted low_voltage
no_loss = uncounted low_voltage (lit< tt)

abbrev pub chosen_low_voltage : Chosen
chosen_low_voltage = without_spacing (245500458415 over 10 ^ 12)

low_voltage_log : IsLog 1470 1150 (245500458415 over 10 ^ 12)
unfolding log_low log_high thirteen_terms series first_power doubled octaves doublings ln2_low ln2_high tera up down
low_voltage_log = record { at_least = closed≤ tt; at_most = closed≤ tt }

pub allowed_low_voltage : Allowed (own low_voltage) low_voltage chosen_low_voltage
unfolding arrangement_of common_sheath
allowed_low_voltage = without_spacing_allowed low_voltage _ refl low_voltage_log

pub answer_low_voltage : ((rate_of low_voltage).number ≡ 0) × ((rate_of low_voltage).rating ≡ 280655)
answer_low_voltage = number_and_rating _ answered.low_voltage_6

under_low_voltage : exact_rise low_voltage chosen_low_voltage (whole 280655) ≤F whole (permitted_of low_voltage)
under_low_voltage = under_at allowed_low_voltage answer_low_voltage

over_low_voltage : whole (permitted_of low_voltage) <F exact_rise low_voltage chosen_low_voltage (whole (280655 + 2))
over_low_voltage = over_at allowed_low_voltage answer_low_voltage

-- the same where it counts, and a case of the older width, where it does as well

counts : Counted low_voltage_counted
counts = counted low_voltage_counted refl

older_case : Older trefoil
older_case = older (take 26 trefoil) refl

allowed_counted : Allowed (own low_voltage_counted) low_voltage_counted chosen_low_voltage
unfolding arrangement_of common_sheath
allowed_counted = without_spacing_allowed low_voltage_counted _ refl low_voltage_log

pub answer_counted : ((rate_of low_voltage_counted).number ≡ 0) × ((rate_of low_voltage_counted).rating ≡ 280511)
answer_counted = number_and_rating _ answered.low_voltage_6_counted

under_counted : exact_rise low_voltage_counted chosen_low_voltage (whole 280511) ≤F whole (permitted_of low_voltage_counted)
under_counted = under_at allowed_counted answer_counted

over_counted : whole (permitted_of low_voltage_counted) <F exact_rise low_voltage_counted chosen_low_voltage (whole (280511 + 2))
over_counted = over_at allowed_counted answer_counted

-- the cable of arrangement 6 in soil that stays moist, by a ρ of 0 and by one of 1000

moist_soil : AsMoist three_cores
moist_soil = as_moist three_cores none_counts

moist_soil* : AsMoist* three_cores chosen_6
moist_soil* = as_moist* three_cores none_counts allowed_6 (fit (all_passed three_cores answer_6.0))

dry_as_moist : AsMoist (set dry_soil 27 1000)
dry_as_moist = as_moist (set dry_soil 27 1000) one_counts

-- and in soil that dries out, which permits 70 K and 1.5 times the 15 K by which the isotherm is above the ambient temperature

pub allowed_dry : Allowed (own dry_soil) dry_soil chosen_6
unfolding arrangement_of common_sheath
allowed_dry = without_spacing_allowed dry_soil _ refl three_cores_log

pub answer_dry : ((rate_of dry_soil).number ≡ 0) × ((rate_of dry_soil).rating ≡ 360793)
answer_dry = number_and_rating _ answered.dry_soil_6

soil_dries : Dries dry_soil
soil_dries = dries dry_soil (all_passed dry_soil answer_dry.0).fields (suc-ne-zero 2499)

permitted_dry : permitted_of dry_soil ≡ 92500000000
unfolding permitted_of permitted_rise soil_ratio rise_of isotherm_rise_of
permitted_dry = refl

under_dry : exact_rise dry_soil chosen_6 (whole 360793) ≤F whole 92500000000
under_dry = rw (← permitted_dry) (under_at allowed_dry answer_dry)

over_dry : whole 92500000000 <F exact_rise dry_soil chosen_6 (whole (360793 + 2))
over_dry = rw (← permitted_dry) (over_at allowed_dry answer_dry)

-- the cable on the bridge in the shade, where the sun's rise is 0; and in the sun, whose 10.3 K with dd leave the current 49.6 K of 60 K

shade : InShade bridge
shade = in_shade bridge refl

shade* : d0* bridge chosen_6 ≃F (numbers_of* bridge chosen_6).dd
unfolding common_sheath arrangement_of Wd_of* B* Wd* loss_counts reactance* dielectric_loss* dielectric_rise* ◌*F◌ reciprocal
shade* = shade.rise* chosen_6 (lit< tt)

pub allowed_sun : Allowed (own sunlit) sunlit chosen_6
unfolding arrangement_of common_sheath
allowed_sun = without_spacing_allowed sunlit _ refl three_cores_log

pub answer_sun : ((rate_of sunlit).number ≡ 0) × ((rate_of sunlit).rating ≡ 579762)
answer_sun = number_and_rating _ answered.sunlit_6

pub answer_sun_older : ((rate_of sunlit_older).number ≡ 0) × ((rate_of sunlit_older).rating ≡ 637128)
answer_sun_older = number_and_rating _ answered.sunlit_6_older

sunlit_as_moist : AsMoist sunlit
sunlit_as_moist = sunlit_moist sunlit (all_passed sunlit answer_sun.0).fields (suc-ne-zero 33479)

permitted_sun : permitted_of sunlit ≡ 60000000000
unfolding permitted_of permitted_rise soil_ratio rise_of isotherm_rise_of
permitted_sun = refl

under_sun : exact_rise sunlit chosen_6 (whole 579762) ≤F whole 60000000000
under_sun = rw (← permitted_sun) (under_at allowed_sun answer_sun)

over_sun : whole 60000000000 <F exact_rise sunlit chosen_6 (whole (579762 + 2))
over_sun = rw (← permitted_sun) (over_at allowed_sun answer_sun)

-- In arrangement 7 nothing is asked of what stands for pi, ln 2 and the two logarithms.

abbrev pub chosen_7 : Chosen
chosen_7 = record { pi = 0 over 0; ln2 = 0 over 0; log_spacing = 0 over 0; log_insulation = 0 over 0 }

nothing_asked : (x : List ℕ) → (own x).alternates ≡ false → (own x).reactive ≡ false → Allowed (own x) x chosen_7
nothing_asked x is_direct not_reactive =
    record {
      pi = other_outcome _ is_direct;
      ln2 = other_outcome _ is_direct;
      log_spacing = other_outcome _ not_reactive;
      log_insulation = other_outcome _ is_direct;
    }

pub allowed_feeder : Allowed (own feeder) feeder chosen_7
unfolding arrangement_of direct_current
allowed_feeder = nothing_asked feeder refl refl

pub answer_feeder : ((rate_of feeder).number ≡ 0) × ((rate_of feeder).rating ≡ 866734)
answer_feeder = number_and_rating _ answered.direct_7

under_7 : exact_rise feeder chosen_7 (whole 866734) ≤F whole (permitted_of feeder)
under_7 = under_at allowed_feeder answer_feeder

over_7 : whole (permitted_of feeder) <F exact_rise feeder chosen_7 (whole (866734 + 2))
over_7 = over_at allowed_feeder answer_feeder

-- it has no dielectric loss, although its U0 is not below field 26; and it is a case of the older width too, which a book of RBK1 refuses

no_loss_7 : Uncounted feeder
unfolding arrangement_of direct_current
no_loss_7 = direct_lossless feeder refl

direct_feeder : Direct feeder
direct_feeder = direct feeder refl

older_feeder : Older feeder
older_feeder = older (take 26 feeder) refl

-- in soil that dries out, and in the sun

allowed_feeder_dry : Allowed (own feeder_dry) feeder_dry chosen_7
unfolding arrangement_of direct_current
allowed_feeder_dry = nothing_asked feeder_dry refl refl

answer_feeder_dry : ((rate_of feeder_dry).number ≡ 0) × ((rate_of feeder_dry).rating ≡ 650515)
answer_feeder_dry = number_and_rating _ answered.direct_7_dry

under_7_dry : exact_rise feeder_dry chosen_7 (whole 650515) ≤F whole (permitted_of feeder_dry)
under_7_dry = under_at allowed_feeder_dry answer_feeder_dry

over_7_dry : whole (permitted_of feeder_dry) <F exact_rise feeder_dry chosen_7 (whole (650515 + 2))
over_7_dry = over_at allowed_feeder_dry answer_feeder_dry

allowed_feeder_sunlit : Allowed (own feeder_sunlit) feeder_sunlit chosen_7
unfolding arrangement_of direct_current
allowed_feeder_sunlit = nothing_asked feeder_sunlit refl refl

answer_feeder_sunlit : ((rate_of feeder_sunlit).number ≡ 0) × ((rate_of feeder_sunlit).rating ≡ 1500626)
answer_feeder_sunlit = number_and_rating _ answered.direct_7_sunlit

under_7_sunlit : exact_rise feeder_sunlit chosen_7 (whole 1500626) ≤F whole (permitted_of feeder_sunlit)
under_7_sunlit = under_at allowed_feeder_sunlit answer_feeder_sunlit

over_7_sunlit : whole (permitted_of feeder_sunlit) <F exact_rise feeder_sunlit chosen_7 (whole (1500626 + 2))
over_7_sunlit = over_at allowed_feeder_sunlit answer_feeder_sunlit

-- demand 3 in dry soil, in the sun and with direct current by computing the exact rise itself, with none of the theorems: at the rating it
-- is not above the permitted rise, and at 1 mA more not below
record Worked : Type 0 where
  dry :
      (exact_rise dry_soil chosen_6 (whole 360793) ≤F whole 92500000000)
      × (whole 92500000000 ≤F exact_rise dry_soil chosen_6 (whole 360794))
  sun :
      (exact_rise sunlit chosen_6 (whole 579762) ≤F whole 60000000000)
      × (whole 60000000000 ≤F exact_rise sunlit chosen_6 (whole 579763))
  direct :
      (exact_rise feeder chosen_7 (whole 866734) ≤F whole 70000000000)
      × (whole 70000000000 ≤F exact_rise feeder chosen_7 (whole 866735))

worked : Worked
unfolding exact_rise d0* solar_rise_of solar_rise rise* E* unit_rise* common_sheath arrangement_of R_of* Wd_of* B* R* Wd* R'
    Rs soil_T4 loss_counts ac_resistance* skin_factor* factor* skin_ratio* skin_reactance* proximity_factor* spacing_ratio* proximity_g*
    proximity_h* common_loss* axis_ratio* common_ratio* first_formula* second_formula* is_first reactance* dielectric_loss*
    dielectric_rise* dielectric_resistance soil_resistance soil_ratio resistance temperature_factor conductor_metal ◌+F◌ ◌*F◌ reciprocal
    direct_current
worked = record { dry = (closed≤ tt, closed≤ tt); sun = (closed≤ tt, closed≤ tt); direct = (closed≤ tt, closed≤ tt) }
