-- What the functions of the stages ask of their arguments, so that every product and quotient fits: one record for all functions that ask
-- the same, in the order of the stages. They speak of numbers, and there is no type for each quantity with its range: a caller has the
-- range from the limits of a case, and would make and open such a value at every call. And the two answers that are handed on with their
-- range. Assumes nothing.
use Rattle.std.specs.Prelude.{◌≡◌, ℕ, ◌*◌, ◌^◌, ◌≤◌, ◌<◌, ℤ, pos, ◌≤ℤ◌}
use Rattle.exact.specs.Rounding.{up}
use Rattle.exact.specs.Trillion.{trillion}
use Rattle.wide.specs.Laws.Ranges.{QuotientFits}
use Rattle.formulas.specs.Resistance.{temperature_factor}
use Rattle.formulas.specs.CommonSheath.{first_formula_limit}
use Rattle.formulas.specs.Laws.Bounds.{
  most_coefficient,
  most_k,
  most_frequency,
  least_temperature,
  most_temperature,
  most_field_resistance,
  most_spacing,
  most_armour_diameter,
  most_voltage,
  most_permittivity,
  most_loss_factor,
  most_t1,
  most_t2,
  most_t3,
  most_t4,
  most_cores,
  most_j,
  most_temperature_factor,
  least_conductor_resistance,
  least_sheath_resistance,
  most_resistance,
  least_reactance,
  most_reactance,
  most_skin_factor,
  most_proximity_factor,
  most_ac_resistance,
  most_log_numerator,
  log_ratio_limit,
  most_log,
  least_insulation_log,
  most_spacing_log,
  most_sheath_reactance,
  most_common_ratio_squared,
  most_sheath_loss,
  most_armour_loss,
  most_dielectric_loss,
  most_permitted_rise,
  most_part_rise,
  least_unit_rise,
}

-- Stage 1.

pub record FactorRanges (α : ℕ) (θ : ℤ) : Type 0 where
  pub α_most : α ≤ most_coefficient
  pub θ_least : least_temperature ≤ℤ θ
  pub θ_most : θ ≤ℤ most_temperature

-- the factor of α and θ is above 0: the number r
pub record IsFactor (α : ℕ) (θ : ℤ) (r : ℕ) : Type 0 where
  pub factor_is : pos r ≡ temperature_factor α θ
  pub factor_most : r ≤ most_temperature_factor

pub record ResistanceRanges (field α : ℕ) (θ : ℤ) : Type 0 where
  pub field_most : field ≤ most_field_resistance
  pub factor : FactorRanges α θ

-- Stage 3: A, and z.

pub record SkinReactanceRanges (f k : ℕ) : Type 0 where
  pub f_most : f ≤ most_frequency
  pub k_most : k ≤ most_k

pub record SkinRatioRanges (f k rc : ℕ) : Type 0 where
  pub reactance : SkinReactanceRanges f k
  pub rc_least : least_conductor_resistance ≤ rc

-- Stage 4.

-- d is the diameter of conductors or of sheaths, which do not overlap
pub record SpacingRanges (d s : ℕ) : Type 0 where
  pub s>0 : 0 < s
  pub s_most : s ≤ most_spacing
  pub apart : d ≤ s

pub record ProximityRanges (u factor : ℕ) : Type 0 where
  pub u_most : u ≤ trillion
  pub factor_most : factor ≤ most_skin_factor

pub record AcResistanceRanges (rc ys yp : ℕ) : Type 0 where
  pub rc_most : rc ≤ most_resistance
  pub ys_most : ys ≤ most_skin_factor
  pub yp_most : yp ≤ most_proximity_factor

-- Stage 5: the octaves of a/b, and its logarithm.

pub record OctaveRanges (a b : ℕ) : Type 0 where
  pub b>0 : 0 < b
  pub b_most : b ≤ a
  pub a_most : a ≤ most_log_numerator

pub record LogRanges (a b : ℕ) : Type 0 where
  pub octaves : OctaveRanges a b
  pub ratio_below : a < log_ratio_limit * b

-- Stage 6.

pub record ThirdRanges (log third : ℕ) : Type 0 where
  pub log_most : log ≤ most_log
  pub third_most : third ≤ trillion

pub record SheathReactanceRanges (b l : ℕ) : Type 0 where
  pub b_most : b ≤ most_reactance
  pub l_most : l ≤ most_spacing_log

-- Stages 7 and 8: a ratio n/c rounded, and its square over T.

pub record SquareFits (round : ℕ → ℕ → ℕ) (n c : ℕ) : Type 0 where
  pub ratio : QuotientFits c (round n c)
  pub square : round (round n c * round n c) trillion < 2 ^ 64

-- Stage 7.

-- v, which stage 8 has too
pub record BondRatioRanges (x rs : ℕ) : Type 0 where
  pub x_most : x ≤ most_sheath_reactance
  pub rs_least : least_sheath_resistance ≤ rs

pub record CirculatingRanges (x rs : ℕ) : Type 0 where
  pub ratio : BondRatioRanges x rs
  pub rs_most : rs ≤ most_resistance

-- after refusal 9
pub record EddyFactorRanges (b rs : ℕ) : Type 0 where
  pub rs>0 : 0 < rs
  pub rs_most : rs ≤ most_resistance
  pub b_most : 5 * b ≤ rs

pub record EddyLossRanges (j b rs d s : ℕ) : Type 0 where
  pub j_most : j ≤ most_j
  pub factor : EddyFactorRanges b rs
  pub spacing : SpacingRanges d s

-- an axis at c from the middle of what has the diameter d, which is a sheath or, in stage 8, the armour
pub record AxisRanges (c d : ℕ) : Type 0 where
  pub d>0 : 0 < d
  pub d_most : d ≤ most_armour_diameter
  pub c_most : 2 * c ≤ d

-- y2 in arrangement 6
pub record CommonRatioRanges (b rs : ℕ) : Type 0 where
  pub b_least : least_reactance ≤ b
  pub rs_most : rs ≤ first_formula_limit

-- b or b2 over 1 and y2 or four of it
pub record TermRanges (part k : ℕ) : Type 0 where
  pub part_most : part ≤ trillion
  pub k_most : k ≤ 4 * most_common_ratio_squared

pub record FirstFormulaRanges (b rs ratio : ℕ) : Type 0 where
  pub common : CommonRatioRanges b rs
  pub ratio_most : ratio ≤ trillion

pub record SecondFormulaRanges (b rs ratio : ℕ) : Type 0 where
  pub b_most : b ≤ most_reactance
  pub rs_above : first_formula_limit < rs
  pub rs_most : rs ≤ most_resistance
  pub ratio_most : ratio ≤ trillion

pub record CommonLossRanges (b rs c d : ℕ) : Type 0 where
  pub b_least : least_reactance ≤ b
  pub b_most : b ≤ most_reactance
  pub rs_most : rs ≤ most_resistance
  pub axis : AxisRanges c d

-- Stage 8.

pub record ReducedArmourRanges (ra b : ℕ) : Type 0 where
  pub ra_most : ra ≤ most_resistance
  pub b_least : least_reactance ≤ b

pub record UnscreenedRanges (ra b c da : ℕ) : Type 0 where
  pub reduced : ReducedArmourRanges ra b
  pub axis : AxisRanges c da

pub record ScreenedRanges (w x rs : ℕ) : Type 0 where
  pub w_most : w ≤ most_armour_loss
  pub ratio : BondRatioRanges x rs

-- Stages 9 and 10.

pub record ThermalRanges (t1 t2 t3 t4 : ℕ) : Type 0 where
  pub t1_most : t1 ≤ most_t1
  pub t2_most : t2 ≤ most_t2
  pub t3_most : t3 ≤ most_t3
  pub t4_most : t4 ≤ most_t4

pub record DielectricLossRanges (e u0 t b l : ℕ) : Type 0 where
  pub e_most : e ≤ most_permittivity
  pub u0_most : u0 ≤ most_voltage
  pub t_most : t ≤ most_loss_factor
  pub b_most : b ≤ most_reactance
  pub l_least : least_insulation_log ≤ l
  pub l_most : l ≤ most_log

pub record DielectricRiseRanges (n wd t1 t2 t3 t4 : ℕ) : Type 0 where
  pub n_most : n ≤ most_cores
  pub wd_most : wd ≤ most_dielectric_loss
  pub thermal : ThermalRanges t1 t2 t3 t4

-- a part of E
pub record PartRanges (r t unit : ℕ) : Type 0 where
  pub unit>0 : 0 < unit
  pub product_most : r * t ≤ most_part_rise * unit

pub record IsPart (r t unit rise : ℕ) : Type 0 where
  pub rise_is : rise ≡ up (r * t) unit
  pub rise_most : rise ≤ most_part_rise

pub record UnitRiseRanges (n r s w t1 t2 t3 t4 : ℕ) : Type 0 where
  pub n_most : n ≤ most_cores
  pub r_most : r ≤ most_ac_resistance
  pub s_most : s ≤ most_sheath_loss
  pub w_most : w ≤ most_armour_loss
  pub thermal : ThermalRanges t1 t2 t3 t4

pub record RatingRanges (N E : ℕ) : Type 0 where
  pub N_most : N ≤ most_permitted_rise
  pub E_least : least_unit_rise ≤ E
