-- Closed values that the starred ones leave out, as one theorem: both tables row by row, one three-core SL cable from its fields to
-- its rating, and the sheath of the other arrangements. They were not copied from the definitions: the tables are those of the
-- standard's pages, and the numbers are what the Rust program `values` under twin/, written apart from the crates, prints. The gate
-- compares the two. Assumes nothing.
use Rattle.std.specs.Prelude.{◌≡◌, refl, [], ◌∷◌, map, ◌+◌, ◌*◌, pos, neg_ℤ}
use Rattle.exact.specs.Rounding.{up, down}
use Rattle.exact.specs.Root.{root}
use Rattle.formulas.specs.Tables.{ks, kp, coefficient, conductor_metal}
use Rattle.formulas.specs.Constants.{tera, pi_low, pi_high, ln2_low, ln2_high, ln2_third_low, ln2_third_high}
use Rattle.formulas.specs.Resistance.{temperature_factor, resistance}
use Rattle.formulas.specs.Skin.{skin_reactance, skin_ratio, skin_ratio_squared, factor, skin_factor}
use Rattle.formulas.specs.Proximity.{spacing_ratio, proximity_h, proximity_g, proximity_factor, ac_resistance}
use Rattle.formulas.specs.Logarithm.{octaves, doubled, first_power, thirteen_terms, log_low, log_high}
use Rattle.formulas.specs.Spacing.{spacing_log_high, spacing_log_low, sheath_reactance, sheath_reactance_low}
use Rattle.formulas.specs.Sheath.{
  bond_ratio,
  bond_ratio_squared,
  circulating_loss,
  three_halves,
  sl_loss,
  eddy_ratio,
  eddy_ratio_squared,
  eddy_factor,
  eddy_spacing,
  eddy_loss,
}
use Rattle.formulas.specs.CommonSheath.{
  is_first,
  axis_ratio,
  axis_ratio_squared,
  common_ratio,
  common_ratio_squared,
  first_formula,
  second_formula,
  common_loss,
}
use Rattle.formulas.specs.Armour.{
  armour_ratio,
  armour_ratio_squared,
  reduced_armour_resistance,
  unscreened_loss,
  screening_ratio_squared,
  screened_loss,
  armour_loss,
}
use Rattle.formulas.specs.Soil.{soil_ratio, soil_resistance, permitted_rise}
use Rattle.formulas.specs.Dielectric.{dielectric_loss, dielectric_resistance, dielectric_rise, current_rise}
use Rattle.formulas.specs.Rating.{unit_rise, rating}

pub record Recomputed : Type 0 where
  -- both tables, and the conductors' metal
  pub alpha_rows : map coefficient (1 ∷ 2 ∷ 3 ∷ 4 ∷ 5 ∷ 6 ∷ []) ≡ 400 ∷ 403 ∷ 393 ∷ 300 ∷ 0 ∷ 450 ∷ []
  pub ks_rows : map ks (1 ∷ 2 ∷ 3 ∷ 4 ∷ 5 ∷ 6 ∷ 7 ∷ 8 ∷ []) ≡ 1000 ∷ 1000 ∷ 435 ∷ 1000 ∷ 1000 ∷ 280 ∷ 190 ∷ 120 ∷ []
  pub kp_rows : map kp (1 ∷ 2 ∷ 3 ∷ 4 ∷ 5 ∷ 6 ∷ 7 ∷ 8 ∷ []) ≡ 800 ∷ 1000 ∷ 370 ∷ 800 ∷ 1000 ∷ 370 ∷ 370 ∷ 370 ∷ []
  pub conductor_metals : map conductor_metal (1 ∷ 2 ∷ 3 ∷ 4 ∷ 5 ∷ 6 ∷ 7 ∷ 8 ∷ []) ≡ 3 ∷ 3 ∷ 3 ∷ 2 ∷ 2 ∷ 2 ∷ 2 ∷ 2 ∷ []
  -- stage 1: the conductor, the sheath and the armour, and lead at -40 °C
  pub rc : resistance 124000 (coefficient (conductor_metal 1)) (pos 8500) ≡ 1556758000000
  pub rs : resistance 1000000 (coefficient 1) (pos 6000) ≡ 11600000000000
  pub ra : resistance 250000 (coefficient 6) (pos 5500) ≡ 2893750000000
  pub cold_lead : temperature_factor (coefficient 1) (neg_ℤ (pos 4000)) ≡ pos 7600000
  -- stages 3 and 4
  pub zs : skin_ratio 5000 (ks 1) 1556758000000 ≡ 807214134400
  pub ys : skin_factor 5000 (ks 1) 1556758000000 ≡ 3384533249
  pub G : skin_factor 5000 (kp 1) 1556758000000 ≡ 2168214737
  pub u : spacing_ratio 1450 4200 ≡ 119189342404
  pub h : proximity_h 2168214737 ≡ 9400412139
  pub g : proximity_g 119189342404 2168214737 ≡ 80629564
  pub yp : proximity_factor 119189342404 2168214737 ≡ 1130039126
  pub R : ac_resistance 1556758000000 3384533249 1130039126 ≡ 1563786096662
  -- stages 5 and 6
  pub log_spacing_low : spacing_log_low 5 4200 4000 ≡ 741937344726
  pub log_spacing_high : spacing_log_high 5 4200 4000 ≡ 741937344742
  pub X : sheath_reactance 628318530720 741937344742 ≡ 466172982335
  pub X_low : sheath_reactance_low 628318530700 741937344726 ≡ 466172982309
  pub L2_low : spacing_log_low 2 12000 4000 ≡ 2022808529409
  pub L2_high : spacing_log_high 2 12000 4000 ≡ 2022808529424
  -- stage 7: the SL sheath's 3/2, also of an odd number, and the eddies of arrangements 3 and 4
  pub v : bond_ratio 466172982335 11600000000000 ≡ 40187326064
  pub v2 : bond_ratio_squared 40187326064 ≡ 1615021177
  pub S_before_three_halves : circulating_loss 466172982335 11600000000000 ≡ 18704038236
  pub S : sl_loss 466172982335 11600000000000 ≡ 28056057354
  pub three_halves_of_odd : three_halves 2480000000001 ≡ 3720000000002
  pub m : eddy_ratio 628318530720 11600000000000 ≡ 27082695290
  pub m2 : eddy_ratio_squared 27082695290 ≡ 733472385
  pub e_prime : eddy_factor 733472385 ≡ 732934798
  pub g_prime : eddy_spacing 4000 12000 ≡ 27777777778
  pub S3 : eddy_loss 1 628318530720 11600000000000 4000 12000 ≡ 708503639
  pub S4 : eddy_loss 2 628318530720 11600000000000 4000 12000 ≡ 1417007277
  -- stage 7 in arrangement 6: under an aluminium sheath, by the first formula, and under a lead sheath, by the second; and where they meet
  pub rs_aluminium : resistance 68830 (coefficient 2) (pos 8147) ≡ 858808498030
  pub b_aluminium : axis_ratio 1853 7297 ≡ 257942044288
  pub b2_aluminium : axis_ratio_squared 257942044288 ≡ 66534098212
  pub y_aluminium : common_ratio 858808498030 628318530720 ≡ 2733672352607
  pub y2_aluminium : common_ratio_squared 2733672352607 ≡ 7472964531407
  pub first_aluminium : up (257942044288 * tera) (tera + 7472964531407) ≡ 30442951028
  pub second_aluminium : up (66534098212 * tera) (tera + 4 * 7472964531407) ≡ 2153774563
  pub S_aluminium : common_loss 628318530720 858808498030 1853 7297 ≡ 83983034837
  pub rs_lead : resistance 355169 (coefficient 1) (pos 8118) ≡ 4420859576800
  pub b_lead : axis_ratio 1853 7377 ≡ 252377865551
  pub S_lead : common_loss 628318530720 4420859576800 1853 7377 ≡ 18029939377
  pub S_meeting : common_loss 628318530720 1000000000000 1853 7377 ≡ 72614704926
  pub S_past_meeting : common_loss 628318530720 1000000000001 1853 7377 ≡ 79707830163
  -- stage 8, before and after its screening
  pub y : armour_ratio 2893750000000 628318530720 ≡ 2551472575801
  pub y2 : armour_ratio_squared 2551472575801 ≡ 6510012305064
  pub r : reduced_armour_resistance 2893750000000 628318530720 ≡ 385318942561
  pub W_before_screening : unscreened_loss 2893750000000 628318530720 2500 11000 ≡ 97921962676
  pub W : armour_loss 2893750000000 628318530720 2500 11000 466172982309 11600000000000 ≡ 97764071631
  -- stage 9
  pub log_insulation_low : log_low 3600 1750 ≡ 721318057524
  pub log_insulation_high : log_high 3600 1750 ≡ 721318057540
  pub Wd : dielectric_loss 350 19000 1000 628318530720 721318057524 ≡ 305721378649
  pub dd : dielectric_rise 3 305721378649 350000 40000 60000 (soil_resistance 0 450000) ≡ 557941517
  pub N : current_rise (permitted_rise 0 7000 0) 557941517 ≡ 69442058483
  -- stage 10
  pub E : unit_rise 3 1563786096662 28056057354 97764071631 350000 40000 60000 (soil_resistance 0 450000) ≡ 3323443717554
  pub I : rating 69442058483 3323443717554 ≡ 457106

pub recomputed : Recomputed
unfolding up down root conductor_metal tera pi_low pi_high ln2_low ln2_high ln2_third_low ln2_third_high temperature_factor resistance
    skin_reactance skin_ratio skin_ratio_squared factor skin_factor spacing_ratio proximity_h proximity_g proximity_factor ac_resistance
    octaves doubled first_power thirteen_terms log_low log_high spacing_log_high spacing_log_low sheath_reactance sheath_reactance_low
    bond_ratio bond_ratio_squared circulating_loss three_halves sl_loss eddy_ratio eddy_ratio_squared eddy_factor eddy_spacing eddy_loss
    axis_ratio axis_ratio_squared common_ratio common_ratio_squared is_first first_formula second_formula common_loss armour_ratio
    armour_ratio_squared reduced_armour_resistance unscreened_loss screening_ratio_squared screened_loss armour_loss dielectric_loss
    soil_ratio soil_resistance dielectric_resistance dielectric_rise permitted_rise current_rise unit_rise rating
recomputed =
    record {
      alpha_rows = refl;
      ks_rows = refl;
      kp_rows = refl;
      conductor_metals = refl;
      rc = refl;
      rs = refl;
      ra = refl;
      cold_lead = refl;
      zs = refl;
      ys = refl;
      G = refl;
      u = refl;
      h = refl;
      g = refl;
      yp = refl;
      R = refl;
      log_spacing_low = refl;
      log_spacing_high = refl;
      X = refl;
      X_low = refl;
      L2_low = refl;
      L2_high = refl;
      v = refl;
      v2 = refl;
      S_before_three_halves = refl;
      S = refl;
      three_halves_of_odd = refl;
      m = refl;
      m2 = refl;
      e_prime = refl;
      g_prime = refl;
      S3 = refl;
      S4 = refl;
      rs_aluminium = refl;
      b_aluminium = refl;
      b2_aluminium = refl;
      y_aluminium = refl;
      y2_aluminium = refl;
      first_aluminium = refl;
      second_aluminium = refl;
      S_aluminium = refl;
      rs_lead = refl;
      b_lead = refl;
      S_lead = refl;
      S_meeting = refl;
      S_past_meeting = refl;
      y = refl;
      y2 = refl;
      r = refl;
      W_before_screening = refl;
      W = refl;
      log_insulation_low = refl;
      log_insulation_high = refl;
      Wd = refl;
      dd = refl;
      N = refl;
      E = refl;
      I = refl;
    }
