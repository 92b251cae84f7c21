-- docs/RATING.md, 'The refusals': the number of each. Assumes nothing.
use Rattle.std.specs.Prelude.{ℕ}
use Rattle.rating.specs.declared.refusal.Refusal.{Refusal}
use Rattle.rating.specs.declared.refusal.Refusal.TheVariants.{
  Arrangement,
  Conductor,
  Limit,
  Stray,
  Geometry,
  Heat,
  Isotherm,
  Sun,
  Metal,
  DirectVoltage,
  Skin,
  Eddy,
  Dielectric,
  Current,
}

abbrev pub number_of : Refusal → ℕ
number_of Arrangement = 1
number_of Conductor = 2
number_of Limit = 3
number_of Stray = 4
number_of Geometry = 5
number_of Heat = 6
number_of Isotherm = 31
number_of Sun = 32
number_of Metal = 7
number_of DirectVoltage = 33
number_of Skin = 8
number_of Eddy = 9
number_of Dielectric = 10
number_of Current = 11
