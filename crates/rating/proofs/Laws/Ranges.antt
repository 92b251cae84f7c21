-- The range of each value of a case that does not depend on the arrangement alone: what the stages' code requires of it, from the
-- limits of the fields, those of every case or those of one whose current alternates. Assumes nothing.
use Rattle.std.specs.Prelude.{◌≡◌, List, ℕ, ◌*◌, ◌≤◌, ◌<◌}
use Rattle.std.proofs.Common.{le_trans, mul-le-mul, arith, lit≤}
use Rattle.bools.proofs.Laws.Tests.{either}
use Rattle.formulas.specs.Refusals.{skin_limit}
use Rattle.formulas.specs.Laws.Bounds.{
  least_conductor_resistance,
  least_insulation_log,
  least_reactance,
  least_sheath_reactance,
  least_sheath_reactance_low,
  least_sheath_resistance,
  most_ac_resistance,
  most_dielectric_loss,
  most_log,
  most_permitted_rise,
  most_proximity_factor,
  most_reactance,
  most_resistance,
  most_sheath_reactance,
  most_skin_factor,
  most_solar_rise,
  most_spacing_log,
  most_t4,
}
use Rattle.formulas.specs.Tables.{conductor_metal}
use Rattle.formulas.specs.Skin.{skin_factor}
use Rattle.formulas.specs.Proximity.{spacing_ratio}
use Rattle.formulas.specs.Logarithm.{log_low}
use Rattle.formulas.specs.Spacing.{spacing_log_high, spacing_log_low}
use Rattle.formulas.specs.Dielectric.{dielectric_loss}
use Rattle.formulas.proofs.Laws.TableRange.{coefficient_most}
use Rattle.formulas.proofs.Laws.LogRange.{log_low_most, log_low_least}
use Rattle.formulas.proofs.Laws.CloseSpacing.{sheath_reactance_least, spacing_log_high_least}
use Rattle.formulas.proofs.Laws.CloseSpacingLow.{sheath_reactance_low_least}
use Rattle.formulas.proofs.Laws.Ranges as Law
use Rattle.formulas.proofs.Laws.Soil.{soil_resistance_range, permitted_rise_range}
use Rattle.formulas.specs.Laws.Ranges.{In}
use Rattle.stages.specs.Laws.Ranges.{ThermalRanges, CirculatingRanges}
use Rattle.fields.specs.Fields as Field
use Rattle.rating.specs.Values.{R', Rs, B, zs, zp, ys, G, yp, R, X, XLow, Wd, loss_counts, rise_of, soil_T4, permitted_of, solar_rise_of}
use Rattle.rating.specs.Laws.Sound.{Sound, Alternating}
use Rattle.rating.proofs.Laws.Rise.{above_cold, rise_range, isotherm_rise_most}

module _ {x : List ℕ} (fine : Sound x) where
  pub R'_range : In least_conductor_resistance most_resistance (R' x)
  unfolding R'
  R'_range =
      Law.resistance_range 5000 20000000 (Field.conductor_temperature x) fine.resistance
      (coefficient_most (conductor_metal (Field.conductor x)))
      (above_cold _ fine.hot.least)
      fine.hot.most

  pub insulation_ratio : Field.insulation_diameter x < 32768 * Field.screen_diameter x
  insulation_ratio = omega (arith, fine.insulation_diameter, fine.screen_diameter)

  pub insulation_log_range : In least_insulation_log most_log (log_low (Field.insulation_diameter x) (Field.screen_diameter x))
  insulation_log_range =
      record {
        least =
            log_low_least _ _ (omega (arith, fine.screen_diameter)) (omega (arith, fine.insulated));
        most =
            log_low_most _ _ (omega (arith, fine.screen_diameter)) (omega (arith, fine.insulated)) insulation_ratio;
      }

  -- T4 and the permitted rise, with what dry soil adds

  pub soil_T4_range : In 10000000 most_t4 (soil_T4 x)
  unfolding soil_T4
  soil_T4_range = soil_resistance_range (Field.dry_ratio x) fine.ratio fine.t4

  pub permitted_range : In 5000000000 most_permitted_rise (permitted_of x)
  unfolding permitted_of rise_of
  permitted_range =
      let rise = rise_range fine in
      permitted_rise_range (Field.dry_ratio x) fine.ratio (record { least = rise.least; most = rise.most }) (isotherm_rise_most fine)

  pub solar_rise_most : solar_rise_of x ≤ most_solar_rise
  unfolding solar_rise_of
  solar_rise_most = Law.solar_rise_most fine.solar_heat.most fine.t4.most

  -- T1 to T4, which stages 9 and 10 take
  pub thermal_ranges :
      {t1 t2 t3 t4 : ℕ} → t1 ≡ Field.t1 x → t2 ≡ Field.t2 x → t3 ≡ Field.t3 x → t4 ≡ soil_T4 x → ThermalRanges t1 t2 t3 t4
  thermal_ranges t1-is t2-is t3-is t4-is =
      record {
        t1_most = omega (arith, fine.t1);
        t2_most = omega (arith, fine.t2);
        t3_most = omega (arith, fine.t3);
        t4_most = omega (arith, soil_T4_range);
      }

  -- after refusal 8
  module _ (zs≤ : zs x ≤ skin_limit) (zp≤ : zp x ≤ skin_limit) where
    pub ys_most : ys x ≤ most_skin_factor
    unfolding ys zs skin_factor
    ys_most = Law.factor_most (Law.skin_ratio_squared_most zs≤)

    pub G_most : G x ≤ most_skin_factor
    unfolding G zp skin_factor
    G_most = Law.factor_most (Law.skin_ratio_squared_most zp≤)

module _ {x : List ℕ} (ac : Alternating x) where
  pub Rs_range : In least_sheath_resistance most_resistance (Rs x)
  unfolding Rs
  Rs_range =
      Law.resistance_range 1000 20000000 (Field.sheath_temperature x) ac.sheath_resistance
      (coefficient_most (Field.sheath_metal x))
      ac.sheath_temperature.least
      ac.sheath_temperature.most

  pub B_range : In least_reactance most_reactance (B x)
  unfolding B
  B_range = Law.reactance_range ac.frequency

  -- where the sheaths do not overlap
  module _ (apart : Field.sheath_diameter x ≤ Field.spacing x) where
    -- 2s/d is below 2^15
    pub spacing_ratio_below : 2 * Field.spacing x < 32768 * Field.sheath_diameter x
    spacing_ratio_below = omega (arith, ac.spacing, ac.sheath_diameter)

    pub spacing_log_high_most : spacing_log_high (Field.arrangement x) (Field.spacing x) (Field.sheath_diameter x) ≤ most_spacing_log
    spacing_log_high_most = Law.spacing_log_high_most _ _ _ (omega (arith, ac.sheath_diameter)) (omega arith) spacing_ratio_below

    pub spacing_log_low_most : spacing_log_low (Field.arrangement x) (Field.spacing x) (Field.sheath_diameter x) ≤ most_spacing_log
    spacing_log_low_most = Law.spacing_log_low_most _ _ _ (omega (arith, ac.sheath_diameter)) (omega arith) spacing_ratio_below

    d>0 : 0 < Field.sheath_diameter x
    d>0 = omega (arith, ac.sheath_diameter)

    pub X_range : In least_sheath_reactance most_sheath_reactance (X x)
    unfolding X
    X_range =
        record {
          least = sheath_reactance_least B_range.least (spacing_log_high_least (Field.arrangement x) d>0 apart);
          most = Law.sheath_reactance_most B_range.most spacing_log_high_most;
        }

    -- what a circulating current's loss takes
    pub circulating_ranges : {r rs : ℕ} → r ≡ X x → rs ≡ Rs x → CirculatingRanges r rs
    circulating_ranges r_is rs_is =
        record {
          ratio = record { x_most = omega (arith, X_range); rs_least = omega (arith, Rs_range) };
          rs_most = omega (arith, Rs_range);
        }

    pub X_low_range : In least_sheath_reactance_low most_sheath_reactance (XLow x)
    unfolding XLow
    X_low_range =
        record {
          least = sheath_reactance_low_least (Field.arrangement x) ac.frequency.least d>0 apart;
          most = Law.sheath_reactance_low_most (le_trans (Law.reactance_low_most ac.frequency.most) (lit≤ tt)) spacing_log_low_most;
        }

module _ {x : List ℕ} (fine : Sound x) (ac : Alternating x) where
  loss_product : Field.permittivity x * (Field.voltage x * Field.voltage x) * Field.loss_factor x ≤ 720000000000000000
  loss_product =
      mul-le-mul
      (mul-le-mul ac.permittivity.most (mul-le-mul fine.voltage.most fine.voltage.most))
      ac.loss_factor.most

  pub Wd_most : Wd x ≤ most_dielectric_loss
  unfolding Wd dielectric_loss
  Wd_most =
      either (λ wd. wd ≤ most_dielectric_loss) (loss_counts x)
      (Law.dielectric_loss_most loss_product (B_range ac).most (insulation_log_range fine).least)
      (lit≤ tt)

  pub conductors_apart : Field.sheath_diameter x ≤ Field.spacing x → Field.conductor_diameter x ≤ Field.spacing x
  conductors_apart apart = omega (arith, fine.core, fine.insulated, ac.sheathed)

  -- after refusal 8, where the conductors do not overlap
  module _ (zs≤ : zs x ≤ skin_limit) (zp≤ : zp x ≤ skin_limit) (spaced : Field.conductor_diameter x ≤ Field.spacing x) where
    pub u_most : spacing_ratio (Field.conductor_diameter x) (Field.spacing x) ≤ 1000000000000
    u_most = Law.spacing_ratio_most (omega (arith, ac.spacing)) spaced

    pub yp_most : yp x ≤ most_proximity_factor
    unfolding yp
    yp_most = Law.proximity_factor_most u_most (G_most fine zs≤ zp≤)

    pub R_range : In least_conductor_resistance most_ac_resistance (R x)
    unfolding R
    R_range = Law.ac_resistance_range (R'_range fine) (ys_most fine zs≤ zp≤) yp_most
