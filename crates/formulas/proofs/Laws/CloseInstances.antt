-- The laws of the exact rise applied to one cable, so that all their premises are seen to be met together: the three-core SL type of
-- 124 microhm/m at 19 kV and 50 Hz, from its resistances on. It rates 457.106 A. Assumes nothing.
use Rattle.std.specs.Prelude.{ℕ, ◌-◌, ◌*◌, ◌^◌, ◌≤◌}
use Rattle.std.proofs.Common.{arith, lit<, lit≤}
use Rattle.exact.specs.Rounding.{up, down}
use Rattle.exact.specs.Fraction.{Fraction, ◌over◌, whole, ◌≤F◌, ◌<F◌}
use Rattle.exact.proofs.Laws.Fraction.{closed≤, whole_mono, ≤F_refl}
use Rattle.exact.specs.Error.{Within}
use Rattle.exact.proofs.Laws.Error.{within_weaken}
use Rattle.formulas.specs.Constants.{tera, pi_low, pi_high, ln2_low, ln2_high, IsPi, IsLn2}
use Rattle.formulas.specs.Reactance.{reactance, reactance_low, reactance*}
use Rattle.formulas.specs.Skin.{skin_reactance, skin_ratio, skin_ratio_squared, factor, skin_factor, skin_factor*}
use Rattle.formulas.specs.Proximity.{
  spacing_ratio,
  proximity_h,
  proximity_g,
  proximity_factor,
  ac_resistance,
  spacing_ratio*,
  proximity_factor*,
  ac_resistance*,
}
use Rattle.formulas.specs.Logarithm.{doublings, octaves, doubled, series, first_power, thirteen_terms, log_low, log_high, IsLog}
use Rattle.formulas.specs.Spacing.{spacing_log_high, spacing_log_low, sheath_reactance, sheath_reactance_low, spacing_log*}
use Rattle.formulas.specs.Spacing.{sheath_reactance*}
use Rattle.formulas.specs.Sheath.{
  bond_ratio,
  bond_ratio_squared,
  circulating_loss,
  three_halves,
  sl_loss,
  circulating_loss*,
  sl_loss*,
  eddy_loss,
  eddy_loss*,
}
use Rattle.formulas.specs.CommonSheath.{common_loss, common_loss*}
use Rattle.formulas.specs.Armour.{
  armour_ratio,
  armour_ratio_squared,
  reduced_armour_resistance,
  unscreened_loss,
  screening_ratio_squared,
  screened_loss,
  armour_loss,
  armour_loss*,
}
use Rattle.formulas.specs.Dielectric.{dielectric_loss, dielectric_resistance, dielectric_rise, dielectric_loss*, dielectric_rise*}
use Rattle.formulas.specs.Rating.{unit_rise, unit_rise*, rise*}
use Rattle.formulas.specs.Laws.Ranges.{In}
use Rattle.formulas.proofs.Laws.Ranges.{reactance_range}
use Rattle.formulas.specs.Laws.Current.{IsRating}
use Rattle.formulas.proofs.Laws.CloseProximity.{resistance_close}
use Rattle.formulas.proofs.Laws.CloseSpacing.{sheath_reactance_close, sheath_reactance_least, spacing_log_high_least}
use Rattle.formulas.proofs.Laws.CloseSheath.{circulating_close, sl_close}
use Rattle.formulas.proofs.Laws.CloseEddy.{eddy_close}
use Rattle.formulas.proofs.Laws.CloseCommonSheath.{common_close}
use Rattle.formulas.proofs.Laws.CloseSpacingLow.{sheath_reactance_low_close, sheath_reactance_low_least}
use Rattle.formulas.proofs.Laws.CloseArmour.{armour_close}
use Rattle.formulas.proofs.Laws.CloseDielectric.{loss_close, dielectric_close}
use Rattle.formulas.proofs.Laws.CloseUnitRise.{unit_rise_close}
use Rattle.formulas.specs.Laws.CloseRise.{Stage10}
use Rattle.formulas.proofs.Laws.CloseRise.{rise_safe, rise_above}
use Rattle.formulas.specs.Laws.Bounds.{least_conductor_resistance, least_sheath_resistance, most_resistance, least_sheath_reactance}

-- What stands for pi, ln 2, and the logarithms of 2s/d = 84/40 and Di/ds = 36/17.5.

abbrev π : Fraction
π = 314159265358 over 10 ^ 11

abbrev ln2 : Fraction
ln2 = 6931471805599 over 10 ^ 13

abbrev chosen_log_spacing : Fraction
chosen_log_spacing = 741937344729 over 10 ^ 12

abbrev chosen_log_insulation : Fraction
chosen_log_insulation = 721318057526 over 10 ^ 12

is_pi : IsPi π
unfolding pi_low pi_high
is_pi =
    record {
      at_least = closed≤ tt;
      at_most = closed≤ tt;
    }

is_ln2 : IsLn2 ln2
unfolding ln2_low ln2_high tera
is_ln2 =
    record {
      at_least = closed≤ tt;
      at_most = closed≤ tt;
    }

is_log_spacing : IsLog (2 * 4200) 4000 chosen_log_spacing
unfolding log_low log_high thirteen_terms series first_power doubled octaves doublings ln2_low ln2_high tera up down
is_log_spacing =
    record {
      at_least = closed≤ tt;
      at_most = closed≤ tt;
    }

is_log_insulation : IsLog 3600 1750 chosen_log_insulation
unfolding log_low log_high thirteen_terms series first_power doubled octaves doublings ln2_low ln2_high tera up down
is_log_insulation =
    record {
      at_least = closed≤ tt;
      at_most = closed≤ tt;
    }

frequency : In 1000 6500 5000
frequency = record { least = lit≤ tt; most = lit≤ tt }

-- R', Rs and RA

abbrev rc : ℕ
rc = 1556758000000

abbrev rs : ℕ
rs = 11600000000000

abbrev ra : ℕ
ra = 2893750000000

conductor : In least_conductor_resistance most_resistance rc
conductor = record { least = lit≤ tt; most = lit≤ tt }

sheath : In least_sheath_resistance most_resistance rs
sheath = record { least = lit≤ tt; most = lit≤ tt }

armour : In least_sheath_resistance most_resistance ra
armour = record { least = lit≤ tt; most = lit≤ tt }

skin : In 120 1000 1000
skin = record { least = lit≤ tt; most = lit≤ tt }

proximity : In 120 1000 800
proximity = record { least = lit≤ tt; most = lit≤ tt }

-- R, X, S, X-, W and the S of arrangement 3

abbrev r : ℕ
r = ac_resistance rc (skin_factor 5000 1000 rc) (proximity_factor (spacing_ratio 1450 4200) (skin_factor 5000 800 rc))

abbrev r* : Fraction
r* = ac_resistance* rc (skin_factor* π 5000 1000 rc) (proximity_factor* (spacing_ratio* 1450 4200) (skin_factor* π 5000 800 rc))

r_close : Within 1000 (whole 0) r* (whole r)
unfolding skin_ratio skin_reactance pi_high tera up
r_close = resistance_close is_pi frequency skin proximity conductor (lit≤ tt) (lit≤ tt) (lit< tt) (lit≤ tt)

abbrev X : ℕ
X = sheath_reactance (reactance 5000) (spacing_log_high 5 4200 4000)

abbrev X* : Fraction
X* = sheath_reactance* (reactance* π 5000) (spacing_log* 5 chosen_log_spacing ln2)

X_close : Within 200 (whole 0) X* (whole X)
X_close = sheath_reactance_close 5 is_pi is_ln2 frequency is_log_spacing (lit< tt) (lit≤ tt) (lit< tt)

X_least : least_sheath_reactance ≤ X
X_least = sheath_reactance_least (reactance_range frequency).least (spacing_log_high_least 5 (lit< tt) (lit≤ tt))

circulating : Within 9800 (whole 408) (circulating_loss* X* rs) (whole (circulating_loss X rs))
circulating = circulating_close X_least sheath X_close

eddies :
    Within 13080 (whole 1248) (eddy_loss* 1 (reactance* π 5000) rs 4000 4200) (whole (eddy_loss 1 (reactance 5000) rs 4000 4200))
unfolding reactance pi_high up
eddies = eddy_close is_pi frequency sheath (lit≤ tt) (lit≤ tt) (lit< tt) (lit≤ tt)

s_close : Within 9800 (whole 613) (sl_loss* X* rs) (whole (sl_loss X rs))
s_close = sl_close X_least sheath X_close

abbrev X- : ℕ
X- = sheath_reactance_low (reactance_low 5000) (spacing_log_low 5 4200 4000)

X_low : Within 6000 (whole 1) (whole X-) X*
X_low =
    within_weaken (lit≤ tt) (≤F_refl (whole 1) (lit< tt))
    (sheath_reactance_low_close 5 is_pi is_ln2 frequency is_log_spacing (lit< tt) (lit≤ tt) (lit< tt))

abbrev w : ℕ
w = armour_loss ra (reactance 5000) 2500 11000 X- rs

abbrev w* : Fraction
w* = armour_loss* ra (reactance* π 5000) 2500 11000 X* rs

w_close : Within 22694 (whole 1005) w* (whole w)
w_close =
    armour_close 2500 is_pi frequency armour (lit< tt) (lit≤ tt) (sheath_reactance_low_least 5 (lit≤ tt) (lit< tt) (lit≤ tt)) sheath X_low

-- the S of arrangement 6, under an aluminium sheath of less than 100 µΩ/m and under a lead sheath of more

common_first :
    Within 196 (whole 19) (common_loss* (reactance* π 5000) 858808498030 1853 7297)
    (whole (common_loss (reactance 5000) 858808498030 1853 7297))
common_first = common_close 1853 is_pi frequency (lit≤ tt) (lit< tt) (lit≤ tt)

common_second :
    Within 196 (whole 19) (common_loss* (reactance* π 5000) 4420859576800 1853 7377)
    (whole (common_loss (reactance 5000) 4420859576800 1853 7377))
common_second = common_close 1853 is_pi frequency (lit≤ tt) (lit< tt) (lit≤ tt)

-- dd and E

abbrev dd : ℕ
dd = dielectric_rise 3 (dielectric_loss 350 19000 1000 (reactance 5000) (log_low 3600 1750)) 350000 40000 60000 450000000

abbrev dd* : Fraction
dd* = dielectric_rise* 3 (dielectric_loss* 350 19000 1000 (reactance* π 5000) chosen_log_insulation) 350000 40000 60000 450000000

dd_close : Within 2200 (whole 2) dd* (whole dd)
dd_close =
    dielectric_close {n = 3} (lit≤ tt) (lit≤ tt) (lit≤ tt) (lit≤ tt) (lit≤ tt)
    (loss_close 350 19000 1000 is_pi frequency is_log_insulation (lit< tt) (lit≤ tt) (lit< tt))

abbrev e : ℕ
e = unit_rise 3 r (sl_loss X rs) w 350000 40000 60000 450000000

abbrev e* : Fraction
e* = unit_rise* 3 r* (sl_loss* X* rs) w* 350000 40000 60000 450000000

r_least : least_conductor_resistance ≤ r
unfolding ac_resistance skin_factor factor skin_ratio_squared skin_ratio skin_reactance proximity_factor proximity_g proximity_h
    spacing_ratio pi_high tera up
r_least = lit≤ tt

e_close : Within 160000 (whole 0) e* (whole e)
e_close =
    unit_rise_close
    (within_weaken (lit≤ tt) (whole_mono (lit≤ tt)) r_close)
    (within_weaken (lit≤ tt) (whole_mono (lit≤ tt)) s_close)
    (within_weaken (lit≤ tt) (whole_mono (lit≤ tt)) w_close)
    r_least 3 350000 40000 60000 450000000 (lit< tt) (lit≤ tt) (lit≤ tt)

dd_share : 10 * dd ≤ 9 * 70000000000
unfolding dielectric_rise dielectric_resistance dielectric_loss reactance log_low thirteen_terms series first_power doubled octaves
    doublings ln2_low pi_high tera up down
dd_share = lit≤ tt

carries : IsRating (70000000000 - dd) e 457106
unfolding unit_rise ac_resistance skin_factor factor skin_ratio_squared skin_ratio skin_reactance proximity_factor proximity_g proximity_h
    spacing_ratio sl_loss three_halves circulating_loss bond_ratio_squared bond_ratio sheath_reactance sheath_reactance_low
    spacing_log_high spacing_log_low armour_loss screened_loss screening_ratio_squared unscreened_loss reduced_armour_resistance
    armour_ratio_squared armour_ratio dielectric_rise dielectric_resistance dielectric_loss reactance reactance_low log_low log_high
    thirteen_terms series first_power doubled octaves doublings ln2_low ln2_high pi_low pi_high tera up down
carries = record { carried = lit≤ tt; no_more = lit< tt }

-- The permitted rise is 70 K.
rated : Stage10 e* dd* e dd (70000000000 - dd) 70000000000 457106
rated =
    record {
      e_close = e_close;
      d0_close = within_weaken (lit≤ tt) (whole_mono (lit≤ tt)) dd_close;
      left = omega (arith, dd_share);
      shares = dd_share;
      warm = lit≤ tt;
      rating = carries;
      most = lit≤ tt;
    }

safe : rise* (whole 457106) e* dd* ≤F whole 70000000000
safe = rise_safe rated

above : whole 70000000000 <F rise* (whole 457108) e* dd*
above = rise_above rated
