-- The limits of the fields (docs/RATING.md) as the code of the stages requires them, and how large and how small the stages' numbers get
-- within them. Each is a plain number with a name; that it bounds what it is named for is proved in Laws.Ranges and Laws.LogRange,
-- or where `stages` uses it. Assumes nothing.
use Rattle.std.specs.Prelude.{ℕ, ℤ, pos, neg_ℤ}

-- The fields, and what the tables have for their codes.

abbrev pub most_conductor_code : ℕ
most_conductor_code = 8

abbrev pub most_metal_code : ℕ
most_metal_code = 6

-- α, and k, which is ks or kp
abbrev pub most_coefficient : ℕ
most_coefficient = 450

abbrev pub most_k : ℕ
most_k = 1000

abbrev pub most_frequency : ℕ
most_frequency = 6500

-- θs and θA, whose limits θc keeps
abbrev pub least_temperature : ℤ
least_temperature = neg_ℤ (pos 4000)

abbrev pub most_temperature : ℤ
most_temperature = pos 25000

-- R0, Rs0 and RA0
abbrev pub most_field_resistance : ℕ
most_field_resistance = 20000000

abbrev pub most_spacing : ℕ
most_spacing = 1000000

abbrev pub most_armour_diameter : ℕ
most_armour_diameter = 50000

abbrev pub most_voltage : ℕ
most_voltage = 300000

abbrev pub most_permittivity : ℕ
most_permittivity = 800

abbrev pub most_loss_factor : ℕ
most_loss_factor = 10000

abbrev pub most_t1 : ℕ
most_t1 = 10000000

abbrev pub most_t2 : ℕ
most_t2 = 10000000

abbrev pub most_t3 : ℕ
most_t3 = 10000000

-- T4 with what dry soil adds, in 10^-9 K·m/W: 20000000 at a ρ of 5000
abbrev pub most_t4 : ℕ
most_t4 = 100000000000

-- n and j in any arrangement
abbrev pub most_cores : ℕ
most_cores = 3

abbrev pub most_j : ℕ
most_j = 2

-- Stage 1, whose factor goes from 7300000 (α 450 at -40 °C) to 20350000 (α 450 at 250 °C).

abbrev pub most_temperature_factor : ℕ
most_temperature_factor = 20350000

-- R': 5000 nΩ/m at the least factor
abbrev pub least_conductor_resistance : ℕ
least_conductor_resistance = 36500000000

-- Rs, and RA, whose fields have the same limits: 1000 nΩ/m at the least factor
abbrev pub least_sheath_resistance : ℕ
least_sheath_resistance = 7300000000

-- R', Rs and RA: 20000000 nΩ/m at the largest factor
abbrev pub most_resistance : ℕ
most_resistance = 407000000000000

-- Stage 2: B at 10 Hz and at 65 Hz.

abbrev pub least_reactance : ℕ
least_reactance = 125663706144

abbrev pub most_reactance : ℕ
most_reactance = 816814089936

-- Stages 3 and 4, with a z that refusal 8 lets pass.

-- A at 65 Hz and k = 1000
abbrev pub most_skin_reactance : ℕ
most_skin_reactance = 1633628179872

-- w at the limit of refusal 8
abbrev pub most_skin_ratio_squared : ℕ
most_skin_ratio_squared = 61465600000000

-- the factor of that w, 0.25486 T, and a little more
abbrev pub most_skin_factor : ℕ
most_skin_factor = 254900000000

-- yp: g is at most 0.08 T and h at most 0.6 T
abbrev pub most_proximity_factor : ℕ
most_proximity_factor = 680000000000

-- R: the largest R' with the largest ys and yp
abbrev pub most_ac_resistance : ℕ
most_ac_resistance = 788000000000000

-- Stage 5, with a/b below 2^15.

-- a, which is 2s or Di: twice the largest spacing
abbrev pub most_log_numerator : ℕ
most_log_numerator = 2000000

-- a/b stays below this
abbrev pub log_ratio_limit : ℕ
log_ratio_limit = 32768

-- a power: ζ is at most a third
abbrev pub most_power : ℕ
most_power = 333333333334

-- thirteen terms, each at most two thirds
abbrev pub most_terms : ℕ
most_terms = 8666666666684

-- either end: these terms, 1 more, and fourteen octaves
abbrev pub most_log : ℕ
most_log = 18370727194525

-- the lower end for Di/ds, which is at least 1.05: twice 1/41
abbrev pub least_insulation_log : ℕ
least_insulation_log = 48780487804

-- Stage 6, with 2s/d at least 2.

-- the upper end of L: that of ln 2
abbrev pub least_spacing_log : ℕ
least_spacing_log = 693147180560

-- either end of L: the logarithm with a third of ln 2
abbrev pub most_spacing_log : ℕ
most_spacing_log = 18601776254712

-- X at 10 Hz and the least L, X- a little less, and X at 65 Hz and the largest L
abbrev pub least_sheath_reactance : ℕ
least_sheath_reactance = 87000000000

abbrev pub least_sheath_reactance_low : ℕ
least_sheath_reactance_low = 80000000000

abbrev pub most_sheath_reactance : ℕ
most_sheath_reactance = 15200000000000

-- Stage 7.

-- v, up or down: the largest X over the least Rs; and v2
abbrev pub most_bond_ratio : ℕ
most_bond_ratio = 2083000000000000

abbrev pub most_bond_ratio_squared : ℕ
most_bond_ratio_squared = 4338889000000000000

-- m, since refusal 9 keeps 5B at or below Rs; m2 and e'; and g', since d is at most s
abbrev pub most_eddy_ratio : ℕ
most_eddy_ratio = 100000000000

abbrev pub most_eddy_factor : ℕ
most_eddy_factor = 10000000000

abbrev pub most_eddy_spacing : ℕ
most_eddy_spacing = 250000000000

-- up(Rs e'/T), at the largest Rs and e'
abbrev pub most_eddy_inner : ℕ
most_eddy_inner = 4070000000000

-- y in arrangement 6: twice 100 µΩ/m over the least B; and y2
abbrev pub most_common_ratio : ℕ
most_common_ratio = 15916000000000

abbrev pub most_common_ratio_squared : ℕ
most_common_ratio_squared = 253320000000000

-- S in arrangement 6: 3 Rs times two terms that are at most 1, with an Rs of at most 100 µΩ/m; above that S is less
abbrev pub most_common_loss : ℕ
most_common_loss = 6000000000000

-- S in any arrangement: three halves of the largest Rs
abbrev pub most_sheath_loss : ℕ
most_sheath_loss = 610500000000000

-- Stage 8.

-- y: 0.554 of the largest RA over the least B; and y2
abbrev pub most_armour_ratio : ℕ
most_armour_ratio = 1795000000000000

abbrev pub most_armour_ratio_squared : ℕ
most_armour_ratio_squared = 3222025000000000000

-- W, before and after the screening: 1.23 of the largest RA, since 2c is at most dA
abbrev pub most_armour_loss : ℕ
most_armour_loss = 500610000000000

-- Stage 9.

-- Wd at e 800, U0 300000 V, t 10000, the largest B and the least logarithm
abbrev pub most_dielectric_loss : ℕ
most_dielectric_loss = 33500000000000000

-- twice the thermal resistance that it meets, with three cores, in 10^-9 K·m/W
abbrev pub most_dielectric_resistance : ℕ
most_dielectric_resistance = 730000000000

abbrev pub most_dielectric_rise : ℕ
most_dielectric_rise = 12227500000000000

-- the permitted rise, and so N: a conductor at 250 °C in an ambient of -40 °C, with a ρ of 5000 and the isotherm at 250 °C
abbrev pub most_permitted_rise : ℕ
most_permitted_rise = 1450000000000

-- the rise by the sun at 200000 mW/m, with the largest T4
abbrev pub most_solar_rise : ℕ
most_solar_rise = 4000000000000

-- Stage 10: E from the least R and T1 alone, and from the largest of everything.

-- a part of E, the rise across one thermal resistance: R, S and W of three cores at T3 with T4
abbrev pub most_part_rise : ℕ
most_part_rise = 627000000000000000

abbrev pub least_unit_rise : ℕ
least_unit_rise = 36500000

abbrev pub most_unit_rise : ℕ
most_unit_rise = 677000000000000000
