-- The theorem over all arrangements on cables that could be bought: a d.c. feeder; the centre cable of three laid flat, whose sheath loses
-- twice as much as in trefoil; and a cable of SL type in an armour of less resistance, which loses more. Assumes nothing.
use Rattle.std.specs.Prelude.{◌≡◌, refl, List, ℕ, set, ◌≤◌}
use Rattle.std.proofs.Common.{ap, lit≤, lit<}
use Rattle.exact.specs.Rounding.{up, down}
use Rattle.formulas.specs.Constants.{tera, pi_low, pi_high, ln2_low, ln2_high, ln2_third_high}
use Rattle.formulas.specs.Tables.{conductor_metal}
use Rattle.formulas.specs.Resistance.{temperature_factor, resistance}
use Rattle.formulas.specs.Reactance.{reactance, reactance_low}
use Rattle.formulas.specs.Skin.{skin_reactance, skin_ratio, skin_ratio_squared, factor, skin_factor}
use Rattle.formulas.specs.Proximity.{spacing_ratio, proximity_h, proximity_g, proximity_factor, ac_resistance}
use Rattle.formulas.specs.Spacing.{spacing_log_high, spacing_log_low, sheath_reactance, sheath_reactance_low}
use Rattle.formulas.specs.Sheath.{
  bond_ratio,
  bond_ratio_squared,
  circulating_loss,
  three_halves,
  sl_loss,
  eddy_ratio,
  eddy_ratio_squared,
  eddy_factor,
  eddy_spacing,
  eddy_loss,
}
use Rattle.formulas.specs.Armour.{
  armour_ratio,
  armour_ratio_squared,
  reduced_armour_resistance,
  unscreened_loss,
  screening_ratio_squared,
  screened_loss,
  armour_loss,
}
use Rattle.formulas.specs.Logarithm.{doublings, octaves, doubled, series, first_power, thirteen_terms, log_low, log_high}
use Rattle.formulas.specs.Soil.{soil_ratio, soil_resistance, permitted_rise}
use Rattle.formulas.specs.Sun.{solar_rise}
use Rattle.formulas.specs.Dielectric.{dielectric_loss, dielectric_resistance, dielectric_rise}
use Rattle.rating.specs.Values.{
  R',
  Rs,
  RA,
  B,
  ys,
  G,
  yp,
  R,
  X,
  XLow,
  loss_counts,
  Wd,
  rise_of,
  isotherm_rise_of,
  soil_T4,
  permitted_of,
  solar_rise_of,
}
use Rattle.rating.specs.OnePoint.{one_point}
use Rattle.rating.specs.SlType.{sl_type}
use Rattle.rating.specs.Arrangements.{arrangement_of}
use Rattle.rating.specs.Current.{R_of, Wd_of}
use Rattle.rating.specs.Stage10.{numbers_of}
use Rattle.rating.specs.Rate.{rate_of}
use Rattle.rating.proofs.Laws.FiveNumbers.{OnlyLosesMore, heat_of, stage_10, all_arrangements}
use Rattle.rating.proofs.Laws.Answers.{trefoil_one_point, flat_one_point, cable, feeder, answered}

abbrev other_armour : List ℕ
other_armour = set cable 18 200000

record MoreLost : Type 0 where
  flat : OnlyLosesMore trefoil_one_point flat_one_point
  armour : OnlyLosesMore cable other_armour

more_lost : MoreLost
unfolding arrangement_of one_point sl_type R_of Wd_of R' Rs RA B ys G yp R X XLow loss_counts Wd rise_of isotherm_rise_of soil_T4
    permitted_of solar_rise_of conductor_metal temperature_factor resistance reactance reactance_low skin_reactance skin_ratio
    skin_ratio_squared factor skin_factor spacing_ratio proximity_h proximity_g proximity_factor ac_resistance spacing_log_high
    spacing_log_low sheath_reactance sheath_reactance_low bond_ratio bond_ratio_squared circulating_loss three_halves sl_loss eddy_ratio
    eddy_ratio_squared eddy_factor eddy_spacing eddy_loss armour_ratio armour_ratio_squared reduced_armour_resistance unscreened_loss
    screening_ratio_squared screened_loss armour_loss soil_ratio soil_resistance permitted_rise solar_rise dielectric_loss
    dielectric_resistance dielectric_rise log_low log_high thirteen_terms series first_power doubled octaves doublings pi_low pi_high
    ln2_low ln2_high ln2_third_high tera up down
more_lost =
    record {
      flat =
          record {
            numbers = record { n = refl; R = refl; S = lit≤ tt; W = lit≤ tt; dd = refl };
            heat = refl;
          };
      armour =
          record {
            numbers = record { n = refl; R = refl; S = lit≤ tt; W = lit≤ tt; dd = refl };
            heat = refl;
          };
    }

feeder_by_stage_10 : (rate_of feeder).rating ≡ stage_10 (numbers_of feeder) (heat_of feeder)
feeder_by_stage_10 = all_arrangements.rated feeder (ap (λ a. a.number) answered.direct_7)

flat_no_higher : (rate_of flat_one_point).rating ≤ (rate_of trefoil_one_point).rating
flat_no_higher = all_arrangements.no_higher trefoil_one_point flat_one_point (ap (λ a. a.number) answered.one_point_3) more_lost.flat

armour_no_higher : (rate_of other_armour).rating ≤ (rate_of cable).rating
armour_no_higher = all_arrangements.no_higher cable other_armour (ap (λ a. a.number) answered.sl_type_5) more_lost.armour

armour_stage_10 : stage_10 (numbers_of other_armour) (heat_of cable) ≤ stage_10 (numbers_of cable) (heat_of cable)
unfolding arrangement_of sl_type R_of R' ys G yp R conductor_metal temperature_factor resistance skin_reactance skin_ratio
    skin_ratio_squared factor skin_factor spacing_ratio proximity_h proximity_g proximity_factor ac_resistance pi_high tera up down
armour_stage_10 = all_arrangements.falls more_lost.armour.numbers (heat_of cable) (lit< tt)
