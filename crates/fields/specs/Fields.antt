-- docs/RATING.md, 'The fields of a case': a case is a list of 30 words of 32 bits. Each field has its name here, once. Assumes nothing.
use Rattle.std.specs.Prelude.{List, ◌++◌, ℕ, ℤ, ◌-◌, get_or, replicate}
use Rattle.std.specs.Int.{w32}
use Rattle.std.proofs.Common.{to_z}

-- how many words a case has
abbrev pub width : ℕ
width = 30

-- and how many it had when RBK1 was the mark of new books
abbrev pub older_width : ℕ
older_width = 26

-- a case of the older width as one of today's: the words that it does not have count as zero
abbrev pub from_older : List ℕ → List ℕ
from_older x = x ++ replicate (width - older_width) 0

abbrev pub word : List ℕ → ℕ → ℕ
word x i = get_or x i 0

-- a word read as two's complement
abbrev pub temperature : List ℕ → ℕ → ℤ
temperature x i = to_z w32 (word x i)

abbrev pub arrangement : List ℕ → ℕ
arrangement x = word x 0

abbrev pub conductor : List ℕ → ℕ
conductor x = word x 1

-- f
abbrev pub frequency : List ℕ → ℕ
frequency x = word x 2

-- θc
abbrev pub conductor_temperature : List ℕ → ℤ
conductor_temperature x = temperature x 3

-- θa
abbrev pub ambient_temperature : List ℕ → ℤ
ambient_temperature x = temperature x 4

-- R0
abbrev pub conductor_resistance : List ℕ → ℕ
conductor_resistance x = word x 5

-- dc
abbrev pub conductor_diameter : List ℕ → ℕ
conductor_diameter x = word x 6

-- s
abbrev pub spacing : List ℕ → ℕ
spacing x = word x 7

-- ds
abbrev pub screen_diameter : List ℕ → ℕ
screen_diameter x = word x 8

-- Di
abbrev pub insulation_diameter : List ℕ → ℕ
insulation_diameter x = word x 9

-- U0
abbrev pub voltage : List ℕ → ℕ
voltage x = word x 10

-- e
abbrev pub permittivity : List ℕ → ℕ
permittivity x = word x 11

-- t
abbrev pub loss_factor : List ℕ → ℕ
loss_factor x = word x 12

-- d
abbrev pub sheath_diameter : List ℕ → ℕ
sheath_diameter x = word x 13

abbrev pub sheath_metal : List ℕ → ℕ
sheath_metal x = word x 14

abbrev pub sheath_resistance : List ℕ → ℕ
sheath_resistance x = word x 15

abbrev pub sheath_temperature : List ℕ → ℤ
sheath_temperature x = temperature x 16

abbrev pub armour_metal : List ℕ → ℕ
armour_metal x = word x 17

abbrev pub armour_resistance : List ℕ → ℕ
armour_resistance x = word x 18

abbrev pub armour_temperature : List ℕ → ℤ
armour_temperature x = temperature x 19

-- c
abbrev pub axis_distance : List ℕ → ℕ
axis_distance x = word x 20

-- dA
abbrev pub armour_diameter : List ℕ → ℕ
armour_diameter x = word x 21

-- T1 to T4
abbrev pub t1 : List ℕ → ℕ
t1 x = word x 22

abbrev pub t2 : List ℕ → ℕ
t2 x = word x 23

abbrev pub t3 : List ℕ → ℕ
t3 x = word x 24

abbrev pub t4 : List ℕ → ℕ
t4 x = word x 25

-- the voltage to earth from which the dielectric loss counts
abbrev pub loss_voltage : List ℕ → ℕ
loss_voltage x = word x 26

-- ρ: the resistivity of dry soil in thousandths of that of moist soil, or 0 where no soil dries out
abbrev pub dry_ratio : List ℕ → ℕ
dry_ratio x = word x 27

-- θx: the temperature of the critical isotherm, within which the soil dries out
abbrev pub isotherm : List ℕ → ℤ
isotherm x = temperature x 28

-- Q: the sun's heat taken up, in mW/m
abbrev pub solar_heat : List ℕ → ℕ
solar_heat x = word x 29
