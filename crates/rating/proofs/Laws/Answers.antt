-- The whole answer, number, rating and sheet, to one case of each arrangement, to one that is refused, to a low-voltage cable whose
-- dielectric loss does not count and then does, to a cable in soil that dries out, rated and refused, to a cable on a bridge, in the
-- shade, in the sun and refused, and to a feeder with direct current, with alternating current, in dry soil, in the sun and refused,
-- computed from the definitions alone. The cases but `sunlit_older`, `feeder_dry`, `feeder_sunlit` and those that 31 to 33 refuse stand in
-- the files of examples/. A definition that gives them another number in any place is refused here. Assumes nothing.
use Rattle.std.specs.Prelude.{◌≡◌, List, [], ◌∷◌, ℕ, set}
use Rattle.exact.specs.Rounding.{up, down}
use Rattle.exact.specs.Root.{root}
use Rattle.bools.specs.First.{or_refused}
use Rattle.formulas.specs.Tables.{conductor_metal}
use Rattle.formulas.specs.Resistance.{temperature_factor, resistance}
use Rattle.formulas.specs.Reactance.{reactance, reactance_low}
use Rattle.formulas.specs.Skin.{skin_reactance, skin_ratio, skin_ratio_squared, factor, skin_factor}
use Rattle.formulas.specs.Proximity.{spacing_ratio, proximity_h, proximity_g, proximity_factor, ac_resistance}
use Rattle.formulas.specs.Spacing.{spacing_log_high, spacing_log_low, sheath_reactance, sheath_reactance_low}
use Rattle.formulas.specs.Sheath.{
  bond_ratio,
  bond_ratio_squared,
  circulating_loss,
  three_halves,
  sl_loss,
  eddy_ratio,
  eddy_ratio_squared,
  eddy_factor,
  eddy_spacing,
  eddy_loss,
}
use Rattle.formulas.specs.CommonSheath.{
  is_first,
  axis_ratio,
  axis_ratio_squared,
  common_ratio,
  common_ratio_squared,
  first_formula,
  second_formula,
  common_loss,
}
use Rattle.formulas.specs.Armour.{
  armour_ratio,
  armour_ratio_squared,
  reduced_armour_resistance,
  unscreened_loss,
  screening_ratio_squared,
  screened_loss,
  armour_loss,
}
use Rattle.formulas.specs.Soil.{soil_ratio, soil_resistance, permitted_rise}
use Rattle.formulas.specs.Sun.{solar_rise}
use Rattle.formulas.specs.Dielectric.{dielectric_loss, dielectric_resistance, dielectric_rise, current_rise}
use Rattle.formulas.specs.Rating.{unit_rise, rating}
use Rattle.formulas.specs.Refusals.{skin_refused, eddy_refused, dielectric_refused, current_refused}
use Rattle.formulas.specs.Constants.{tera, pi_low, pi_high, ln2_low, ln2_high, ln2_third_high}
use Rattle.formulas.specs.Logarithm.{doublings, octaves, doubled, series, first_power, thirteen_terms, log_low, log_high}
use Rattle.rating.specs.Values.{
  R',
  Rs,
  RA,
  B,
  zs,
  zp,
  ys,
  G,
  yp,
  R,
  X,
  XLow,
  loss_counts,
  Wd,
  rise_of,
  isotherm_rise_of,
  soil_T4,
  permitted_of,
  solar_rise_of,
}
use Rattle.rating.specs.Arrangement.{axis_limits, no_armour, armourless}
use Rattle.rating.specs.BothEnds.{both_ends}
use Rattle.rating.specs.OnePoint.{one_point}
use Rattle.rating.specs.SlType.{armour_limits, sl_type}
use Rattle.rating.specs.CommonSheath.{common_sheath}
use Rattle.rating.specs.DirectCurrent.{no_alternating, direct_current}
use Rattle.rating.specs.Arrangements.{arrangement_of}
use Rattle.rating.specs.Current.{R_of, Wd_of}
use Rattle.rating.specs.FieldRefusals.{
  conductor_refused,
  limit_refused,
  conductor_limits,
  alternating_limits,
  thermal_limits,
  moist,
  further_limits,
  isotherm_unused,
  stray_refused,
  geometry_refused,
  heat_refused,
  isotherm_refused,
  sun_refused,
  metal_refused,
  direct_voltage_refused,
  field_refusals,
}
use Rattle.rating.specs.Stage10.{d0, N, E, current_of}
use Rattle.rating.specs.Rate.{refused, sheet_of, rated, loaded, judged, rate_of, rate_of_is}

-- arrangement 1: three cables of 6/10 kV in trefoil
abbrev pub trefoil : List ℕ
trefoil =
    1 ∷ 2 ∷ 5000 ∷ 9000 ∷ 2000 ∷ 1150000 ∷ 480 ∷ 1920 ∷ 600 ∷ 1280 ∷ 6000 ∷ 250 ∷ 400 ∷ 1470 ∷ 3 ∷ 1077562 ∷ 8000 ∷ 0 ∷ 0 ∷ 0 ∷ 0 ∷ 0
    ∷ 596281 ∷ 0 ∷ 185062 ∷ 3212858 ∷ 0 ∷ 0 ∷ 0 ∷ 0 ∷ []

-- 2: the same laid flat and transposed
abbrev pub flat : List ℕ
flat =
    2 ∷ 2 ∷ 5000 ∷ 9000 ∷ 2000 ∷ 1150000 ∷ 480 ∷ 3840 ∷ 600 ∷ 1280 ∷ 6000 ∷ 250 ∷ 400 ∷ 1470 ∷ 3 ∷ 1077562 ∷ 8000 ∷ 0 ∷ 0 ∷ 0 ∷ 0 ∷ 0
    ∷ 596281 ∷ 0 ∷ 115664 ∷ 3002284 ∷ 0 ∷ 0 ∷ 0 ∷ 0 ∷ []

-- 3: a cable for 64 kV to earth with a segmental conductor and a lead sheath, in trefoil
abbrev pub trefoil_one_point : List ℕ
trefoil_one_point =
    3 ∷ 3 ∷ 5000 ∷ 9000 ∷ 1500 ∷ 28300 ∷ 3400 ∷ 9000 ∷ 3600 ∷ 6600 ∷ 64000 ∷ 250 ∷ 100 ∷ 7200 ∷ 1 ∷ 400000 ∷ 7500 ∷ 0 ∷ 0 ∷ 0 ∷ 0 ∷ 0
    ∷ 400000 ∷ 0 ∷ 60000 ∷ 500000 ∷ 0 ∷ 0 ∷ 0 ∷ 0 ∷ []

-- 4: the same laid flat
abbrev pub flat_one_point : List ℕ
flat_one_point =
    4 ∷ 3 ∷ 5000 ∷ 9000 ∷ 1500 ∷ 28300 ∷ 3400 ∷ 9000 ∷ 3600 ∷ 6600 ∷ 64000 ∷ 250 ∷ 100 ∷ 7200 ∷ 1 ∷ 400000 ∷ 7500 ∷ 0 ∷ 0 ∷ 0 ∷ 0 ∷ 0
    ∷ 400000 ∷ 0 ∷ 60000 ∷ 500000 ∷ 0 ∷ 0 ∷ 0 ∷ 0 ∷ []

-- 5: a three-core cable of SL type
abbrev pub cable : List ℕ
cable =
    5 ∷ 1 ∷ 5000 ∷ 8500 ∷ 1500 ∷ 124000 ∷ 1450 ∷ 4200 ∷ 1750 ∷ 3600 ∷ 19000 ∷ 350 ∷ 1000 ∷ 4000 ∷ 1 ∷ 1000000 ∷ 6000 ∷ 6 ∷ 250000 ∷ 5500
    ∷ 2500 ∷ 11000 ∷ 350000 ∷ 40000 ∷ 60000 ∷ 450000 ∷ 0 ∷ 0 ∷ 0 ∷ 0 ∷ []

-- the same with sheaths of aluminium, which refusal 7 refuses
abbrev pub aluminium : List ℕ
aluminium =
    5 ∷ 1 ∷ 5000 ∷ 8500 ∷ 1500 ∷ 124000 ∷ 1450 ∷ 4200 ∷ 1750 ∷ 3600 ∷ 19000 ∷ 350 ∷ 1000 ∷ 4000 ∷ 2 ∷ 1000000 ∷ 6000 ∷ 6 ∷ 250000 ∷ 5500
    ∷ 2500 ∷ 11000 ∷ 350000 ∷ 40000 ∷ 60000 ∷ 450000 ∷ 0 ∷ 0 ∷ 0 ∷ 0 ∷ []

-- 6: a three-core cable of 12/20 kV under one lead sheath
abbrev pub three_cores : List ℕ
three_cores =
    6 ∷ 2 ∷ 5000 ∷ 9000 ∷ 2000 ∷ 75400 ∷ 1850 ∷ 3210 ∷ 1970 ∷ 3070 ∷ 12000 ∷ 250 ∷ 400 ∷ 7377 ∷ 1 ∷ 355169 ∷ 8118 ∷ 0 ∷ 0 ∷ 0 ∷ 1853 ∷ 0
    ∷ 406119 ∷ 0 ∷ 51159 ∷ 869665 ∷ 0 ∷ 0 ∷ 0 ∷ 0 ∷ []

-- the third of that file, under an aluminium sheath, whose Rs is below 100 µΩ/m
abbrev pub three_cores_aluminium : List ℕ
three_cores_aluminium =
    6 ∷ 5 ∷ 5000 ∷ 9000 ∷ 2000 ∷ 125000 ∷ 1850 ∷ 3210 ∷ 1970 ∷ 3070 ∷ 12000 ∷ 250 ∷ 400 ∷ 7297 ∷ 2 ∷ 68830 ∷ 8147 ∷ 0 ∷ 0 ∷ 0 ∷ 1853 ∷ 0
    ∷ 406119 ∷ 0 ∷ 51444 ∷ 874605 ∷ 0 ∷ 0 ∷ 0 ∷ 0 ∷ []

-- a three-core cable of 0.6/1 kV with PVC insulation, whose loss the standard counts from 6 kV, under a concentric copper conductor
abbrev pub low_voltage : List ℕ
low_voltage =
    6 ∷ 1 ∷ 5000 ∷ 7000 ∷ 2000 ∷ 193000 ∷ 1150 ∷ 1470 ∷ 1150 ∷ 1470 ∷ 600 ∷ 800 ∷ 10000 ∷ 3500 ∷ 3 ∷ 387000 ∷ 6200 ∷ 0 ∷ 0 ∷ 0 ∷ 849 ∷ 0
    ∷ 450000 ∷ 0 ∷ 83000 ∷ 674000 ∷ 6000 ∷ 0 ∷ 0 ∷ 0 ∷ []

-- the same where every voltage counts, by which its rating is 0.144 A smaller
abbrev pub low_voltage_counted : List ℕ
low_voltage_counted = set low_voltage 26 0

-- the cable of arrangement 6 in soil that dries out within the isotherm of 35 °C, where it has 2.5 times the resistivity of moist soil; its
-- rating is 23 per cent smaller by that
abbrev pub dry_soil : List ℕ
dry_soil = set (set three_cores 27 2500) 28 3500

-- the same with an isotherm 0.01 K below the ambient temperature, which refusal 31 refuses
abbrev pub cold_isotherm : List ℕ
cold_isotherm = set dry_soil 28 1999

-- the cable of arrangement 6 in free air of 30 °C, on a bridge, in the shade
abbrev pub bridge : List ℕ
bridge =
    6 ∷ 2 ∷ 5000 ∷ 9000 ∷ 3000 ∷ 75400 ∷ 1850 ∷ 3210 ∷ 1970 ∷ 3070 ∷ 12000 ∷ 250 ∷ 400 ∷ 7377 ∷ 1 ∷ 355169 ∷ 7402 ∷ 0 ∷ 0 ∷ 0 ∷ 1853 ∷ 0
    ∷ 406119 ∷ 0 ∷ 51159 ∷ 314776 ∷ 0 ∷ 0 ∷ 0 ∷ 0 ∷ []

-- the same in the sun, of which it takes up 33.48 W/m, with the T4 and the sheath temperature that go with it; its rating is 8 per cent
-- smaller
abbrev pub sunlit : List ℕ
sunlit =
    6 ∷ 2 ∷ 5000 ∷ 9000 ∷ 3000 ∷ 75400 ∷ 1850 ∷ 3210 ∷ 1970 ∷ 3070 ∷ 12000 ∷ 250 ∷ 400 ∷ 7377 ∷ 1 ∷ 355169 ∷ 7658 ∷ 0 ∷ 0 ∷ 0 ∷ 1853 ∷ 0
    ∷ 406119 ∷ 0 ∷ 51159 ∷ 307819 ∷ 0 ∷ 0 ∷ 0 ∷ 33480 ∷ []

-- the same without its field 29, as an older book has it
abbrev pub sunlit_older : List ℕ
sunlit_older = set sunlit 29 0

-- and with soil that dries out, which refusal 32 refuses
abbrev pub sunlit_dry : List ℕ
sunlit_dry = set (set sunlit 27 2500) 28 3500

-- 7: a d.c. feeder of 1.5 kV, one of three parallel cables
abbrev pub feeder : List ℕ
feeder =
    7 ∷ 2 ∷ 0 ∷ 9000 ∷ 2000 ∷ 36600 ∷ 2630 ∷ 0 ∷ 2630 ∷ 3070 ∷ 1500 ∷ 0 ∷ 0 ∷ 0 ∷ 0 ∷ 0 ∷ 0 ∷ 0 ∷ 0 ∷ 0 ∷ 0 ∷ 0 ∷ 86171 ∷ 0 ∷ 119012
    ∷ 1791461 ∷ 0 ∷ 0 ∷ 0 ∷ 0 ∷ []

-- the same three cables as a circuit of arrangement 1, whose rating is 8 per cent smaller
abbrev pub feeder_alternating : List ℕ
feeder_alternating =
    1 ∷ 2 ∷ 5000 ∷ 9000 ∷ 2000 ∷ 36600 ∷ 2630 ∷ 4000 ∷ 2630 ∷ 3070 ∷ 1800 ∷ 250 ∷ 400 ∷ 3420 ∷ 3 ∷ 524000 ∷ 8720 ∷ 0 ∷ 0 ∷ 0 ∷ 0 ∷ 0
    ∷ 86171 ∷ 0 ∷ 119012 ∷ 1791461 ∷ 127000 ∷ 0 ∷ 0 ∷ 0 ∷ []

-- the feeder in soil that dries out within the isotherm of 35 °C, where it has 2.5 times the resistivity of moist soil
abbrev pub feeder_dry : List ℕ
feeder_dry = set (set feeder 27 2500) 28 3500

-- the feeder in the sun, of which it takes up 16 W/m, with another T4
abbrev pub feeder_sunlit : List ℕ
feeder_sunlit = set (set feeder 25 400000) 29 16000

-- the feeder with 1 V above 5 kV, which refusal 33 refuses
abbrev pub feeder_over : List ℕ
feeder_over = set feeder 10 5001

pub record Answered : Type 0 where
  pub both_ends_1 :
      rate_of trefoil
      ≡ record {
        number = 0;
        rating = 109210;
        sheet =
            14663650000000 ∷ 13316511196000 ∷ 0 ∷ 628318530720 ∷ 38249084 ∷ 10492803 ∷ 14664364733972 ∷ 603317714907 ∷ 27277914460 ∷ 0
            ∷ 8292601132 ∷ 30649956 ∷ 58665108455899 ∷ [];
      }
  pub both_ends_2 :
      rate_of flat
      ≡ record {
        number = 0;
        rating = 113006;
        sheet =
            14663650000000 ∷ 13316511196000 ∷ 0 ∷ 628318530720 ∷ 38249084 ∷ 2614461 ∷ 14664249208722 ∷ 1184007338990 ∷ 104447614770 ∷ 0
            ∷ 8292601132 ∷ 28328260 ∷ 54792041905840 ∷ [];
      }
  pub one_point_3 :
      rate_of trefoil_one_point
      ≡ record {
        number = 0;
        rating = 1445739;
        sheet =
            360853300000 ∷ 4880000000000 ∷ 0 ∷ 628318530720 ∷ 11838668891 ∷ 5245677483 ∷ 367018242768 ∷ 0 ∷ 9667740771 ∷ 0 ∷ 294854246119
            ∷ 224089228 ∷ 357751447890 ∷ [];
      }
  pub one_point_4 :
      rate_of flat_one_point
      ≡ record {
        number = 0;
        rating = 1434923;
        sheet =
            360853300000 ∷ 4880000000000 ∷ 0 ∷ 628318530720 ∷ 11838668891 ∷ 5245677483 ∷ 367018242768 ∷ 0 ∷ 19335481541 ∷ 0
            ∷ 294854246119 ∷ 224089228 ∷ 363165382722 ∷ [];
      }
  pub sl_type_5 :
      rate_of cable
      ≡ record {
        number = 0;
        rating = 457106;
        sheet =
            1556758000000 ∷ 11600000000000 ∷ 2893750000000 ∷ 628318530720 ∷ 3384533249 ∷ 1130039126 ∷ 1563786096662 ∷ 466172982335
            ∷ 28056057354 ∷ 97764071631 ∷ 305721378649 ∷ 557941517 ∷ 3323443717554 ∷ [];
      }
  pub common_sheath_6 :
      rate_of three_cores
      ≡ record {
        number = 0;
        rating = 469955;
        sheet =
            961425400000 ∷ 4420859576800 ∷ 0 ∷ 628318530720 ∷ 8835005445 ∷ 12722773647 ∷ 982151596387 ∷ 0 ∷ 18029939377 ∷ 0 ∷ 56650693262
            ∷ 167999416 ∷ 3161843911640 ∷ [];
      }
  pub common_sheath_6_first :
      rate_of three_cores_aluminium
      ≡ record {
        number = 0;
        rating = 360383;
        sheet =
            1602625000000 ∷ 858808498030 ∷ 0 ∷ 628318530720 ∷ 3194063320 ∷ 4692286050 ∷ 1615263860660 ∷ 0 ∷ 83983034837 ∷ 0 ∷ 56650693262
            ∷ 168887415 ∷ 5376747008813 ∷ [];
      }
  pub low_voltage_6 :
      rate_of low_voltage
      ≡ record {
        number = 0;
        rating = 280655;
        sheet =
            2309245000000 ∷ 4508782200000 ∷ 0 ∷ 628318530720 ∷ 1540433462 ∷ 2743783662 ∷ 2319138306973 ∷ 0 ∷ 16486548705 ∷ 0 ∷ 0 ∷ 0
            ∷ 6347816285383 ∷ [];
      }
  pub low_voltage_6_counted :
      rate_of low_voltage_counted
      ≡ record {
        number = 0;
        rating = 280511;
        sheet =
            2309245000000 ∷ 4508782200000 ∷ 0 ∷ 628318530720 ∷ 1540433462 ∷ 2743783662 ∷ 2319138306973 ∷ 0 ∷ 16486548705 ∷ 0
            ∷ 20474700041 ∷ 51104852 ∷ 6347816285383 ∷ [];
      }
  -- of the sheet only dd and E differ from those of moist soil
  pub dry_soil_6 :
      rate_of dry_soil
      ≡ record {
        number = 0;
        rating = 360793;
        sheet =
            961425400000 ∷ 4420859576800 ∷ 0 ∷ 628318530720 ∷ 8835005445 ∷ 12722773647 ∷ 982151596387 ∷ 0 ∷ 18029939377 ∷ 0 ∷ 56650693262
            ∷ 389701479 ∷ 7076046850490 ∷ [];
      }
  pub bridge_6 :
      rate_of bridge
      ≡ record {
        number = 0;
        rating = 632628;
        sheet =
            961425400000 ∷ 4319139175200 ∷ 0 ∷ 628318530720 ∷ 8835005445 ∷ 12722773647 ∷ 982151596387 ∷ 0 ∷ 18454563961 ∷ 0 ∷ 56650693262
            ∷ 73694876 ∷ 1497340870035 ∷ [];
      }
  -- dd is the dielectric's alone
  pub sunlit_6 :
      rate_of sunlit
      ≡ record {
        number = 0;
        rating = 579762;
        sheet =
            961425400000 ∷ 4355508480800 ∷ 0 ∷ 628318530720 ∷ 8835005445 ∷ 12722773647 ∷ 982151596387 ∷ 0 ∷ 18300464921 ∷ 0 ∷ 56650693262
            ∷ 72512520 ∷ 1476291264367 ∷ [];
      }
  pub sunlit_6_older :
      rate_of sunlit_older
      ≡ record {
        number = 0;
        rating = 637128;
        sheet =
            961425400000 ∷ 4355508480800 ∷ 0 ∷ 628318530720 ∷ 8835005445 ∷ 12722773647 ∷ 982151596387 ∷ 0 ∷ 18300464921 ∷ 0 ∷ 56650693262
            ∷ 72512520 ∷ 1476291264367 ∷ [];
      }
  -- R is R', and all but these two and E is 0
  pub direct_7 :
      rate_of feeder
      ≡ record {
        number = 0;
        rating = 866734;
        sheet =
            466686600000 ∷ 0 ∷ 0 ∷ 0 ∷ 0 ∷ 0 ∷ 466686600000 ∷ 0 ∷ 0 ∷ 0 ∷ 0 ∷ 0 ∷ 931806999771 ∷ [];
      }
  -- in a.c., whose dielectric loss does not count
  pub both_ends_1_feeder :
      rate_of feeder_alternating
      ≡ record {
        number = 0;
        rating = 795387;
        sheet =
            466686600000 ∷ 6623863040000 ∷ 0 ∷ 628318530720 ∷ 36655729563 ∷ 63114123517 ∷ 513247853517 ∷ 533945709829 ∷ 42763180211 ∷ 0
            ∷ 0 ∷ 0 ∷ 1106471148426 ∷ [];
      }
  pub direct_7_dry :
      rate_of feeder_dry
      ≡ record {
        number = 0;
        rating = 650515;
        sheet =
            466686600000 ∷ 0 ∷ 0 ∷ 0 ∷ 0 ∷ 0 ∷ 466686600000 ∷ 0 ∷ 0 ∷ 0 ∷ 0 ∷ 0 ∷ 2185883264455 ∷ [];
      }
  pub direct_7_sunlit :
      rate_of feeder_sunlit
      ≡ record {
        number = 0;
        rating = 1500626;
        sheet =
            466686600000 ∷ 0 ∷ 0 ∷ 0 ∷ 0 ∷ 0 ∷ 466686600000 ∷ 0 ∷ 0 ∷ 0 ∷ 0 ∷ 0 ∷ 282430796649 ∷ [];
      }
  pub refused_7 :
      rate_of aluminium
      ≡ record {
        number = 7;
        rating = 0;
        sheet =
            0 ∷ 0 ∷ 0 ∷ 0 ∷ 0 ∷ 0 ∷ 0 ∷ 0 ∷ 0 ∷ 0 ∷ 0 ∷ 0 ∷ 0 ∷ [];
      }
  pub refused_31 :
      rate_of cold_isotherm
      ≡ record {
        number = 31;
        rating = 0;
        sheet =
            0 ∷ 0 ∷ 0 ∷ 0 ∷ 0 ∷ 0 ∷ 0 ∷ 0 ∷ 0 ∷ 0 ∷ 0 ∷ 0 ∷ 0 ∷ [];
      }
  pub refused_32 :
      rate_of sunlit_dry
      ≡ record {
        number = 32;
        rating = 0;
        sheet =
            0 ∷ 0 ∷ 0 ∷ 0 ∷ 0 ∷ 0 ∷ 0 ∷ 0 ∷ 0 ∷ 0 ∷ 0 ∷ 0 ∷ 0 ∷ [];
      }
  pub refused_33 :
      rate_of feeder_over
      ≡ record {
        number = 33;
        rating = 0;
        sheet =
            0 ∷ 0 ∷ 0 ∷ 0 ∷ 0 ∷ 0 ∷ 0 ∷ 0 ∷ 0 ∷ 0 ∷ 0 ∷ 0 ∷ 0 ∷ [];
      }

pub answered : Answered
unfolding rated sheet_of refused loaded judged or_refused field_refusals conductor_refused limit_refused conductor_limits
    alternating_limits thermal_limits moist further_limits isotherm_unused stray_refused geometry_refused heat_refused isotherm_refused
    sun_refused metal_refused direct_voltage_refused arrangement_of sl_type soil_ratio soil_resistance isotherm_rise_of soil_T4
    permitted_of armour_limits R_of Wd_of skin_refused eddy_refused dielectric_refused current_refused R' Rs RA B zs zp ys G yp R X XLow
    loss_counts Wd rise_of solar_rise_of d0 N E current_of conductor_metal temperature_factor resistance reactance reactance_low
    skin_reactance skin_ratio skin_ratio_squared factor skin_factor spacing_ratio proximity_h proximity_g proximity_factor ac_resistance
    log_low log_high thirteen_terms series first_power doubled octaves doublings spacing_log_high spacing_log_low sheath_reactance
    sheath_reactance_low bond_ratio bond_ratio_squared circulating_loss three_halves sl_loss armour_ratio armour_ratio_squared
    reduced_armour_resistance unscreened_loss screening_ratio_squared screened_loss armour_loss dielectric_loss dielectric_resistance
    dielectric_rise solar_rise permitted_rise current_rise unit_rise rating root pi_low pi_high ln2_low ln2_high ln2_third_high tera up
    down axis_limits no_armour armourless both_ends one_point eddy_ratio eddy_ratio_squared eddy_factor eddy_spacing eddy_loss
    common_sheath axis_ratio axis_ratio_squared common_ratio common_ratio_squared is_first first_formula second_formula common_loss
    no_alternating direct_current
answered =
    record {
      both_ends_1 = rate_of_is trefoil;
      both_ends_2 = rate_of_is flat;
      one_point_3 = rate_of_is trefoil_one_point;
      one_point_4 = rate_of_is flat_one_point;
      sl_type_5 = rate_of_is cable;
      common_sheath_6 = rate_of_is three_cores;
      common_sheath_6_first = rate_of_is three_cores_aluminium;
      low_voltage_6 = rate_of_is low_voltage;
      low_voltage_6_counted = rate_of_is low_voltage_counted;
      dry_soil_6 = rate_of_is dry_soil;
      bridge_6 = rate_of_is bridge;
      sunlit_6 = rate_of_is sunlit;
      sunlit_6_older = rate_of_is sunlit_older;
      direct_7 = rate_of_is feeder;
      both_ends_1_feeder = rate_of_is feeder_alternating;
      direct_7_dry = rate_of_is feeder_dry;
      direct_7_sunlit = rate_of_is feeder_sunlit;
      refused_7 = rate_of_is aluminium;
      refused_31 = rate_of_is cold_isotherm;
      refused_32 = rate_of_is sunlit_dry;
      refused_33 = rate_of_is feeder_over;
    }
