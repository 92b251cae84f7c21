-- docs/RATING.md, stages 1 to 6 and 9 on a case: each value that does not depend on the arrangement alone, under the paper's letter.
-- What an arrangement makes of them stands in Arrangement, and what direct current has of them in Current. Assumes nothing.
use Rattle.std.specs.Prelude.{Bool, cond, List, ℕ, ◌-ℤ◌, leb, nat_abs}
use Rattle.formulas.specs.Tables.{ks, kp, coefficient, conductor_metal}
use Rattle.formulas.specs.Resistance.{resistance}
use Rattle.formulas.specs.Reactance.{reactance, reactance_low}
use Rattle.formulas.specs.Skin.{skin_ratio, skin_factor}
use Rattle.formulas.specs.Proximity.{spacing_ratio, proximity_factor, ac_resistance}
use Rattle.formulas.specs.Logarithm.{log_low}
use Rattle.formulas.specs.Spacing.{spacing_log_high, spacing_log_low, sheath_reactance, sheath_reactance_low}
use Rattle.formulas.specs.Soil.{soil_resistance, permitted_rise}
use Rattle.formulas.specs.Sun.{solar_rise}
use Rattle.formulas.specs.Dielectric.{dielectric_loss}
use Rattle.fields.specs.Fields as Field

unfoldable pub R' : List ℕ → ℕ
R' x = resistance (Field.conductor_resistance x) (coefficient (conductor_metal (Field.conductor x))) (Field.conductor_temperature x)

unfoldable pub Rs : List ℕ → ℕ
Rs x = resistance (Field.sheath_resistance x) (coefficient (Field.sheath_metal x)) (Field.sheath_temperature x)

-- of a cable that has armour
unfoldable pub RA : List ℕ → ℕ
RA x = resistance (Field.armour_resistance x) (coefficient (Field.armour_metal x)) (Field.armour_temperature x)

unfoldable pub B : List ℕ → ℕ
B x = reactance (Field.frequency x)

-- z with ks, and with kp
unfoldable pub zs : List ℕ → ℕ
zs x = skin_ratio (Field.frequency x) (ks (Field.conductor x)) (R' x)

unfoldable pub zp : List ℕ → ℕ
zp x = skin_ratio (Field.frequency x) (kp (Field.conductor x)) (R' x)

unfoldable pub ys : List ℕ → ℕ
ys x = skin_factor (Field.frequency x) (ks (Field.conductor x)) (R' x)

-- G, and yp from u and G
unfoldable pub G : List ℕ → ℕ
G x = skin_factor (Field.frequency x) (kp (Field.conductor x)) (R' x)

unfoldable pub yp : List ℕ → ℕ
yp x = proximity_factor (spacing_ratio (Field.conductor_diameter x) (Field.spacing x)) (G x)

unfoldable pub R : List ℕ → ℕ
R x = ac_resistance (R' x) (ys x) (yp x)

-- X, and X- from below, where currents circulate through the sheaths
unfoldable pub X : List ℕ → ℕ
X x = sheath_reactance (B x) (spacing_log_high (Field.arrangement x) (Field.spacing x) (Field.sheath_diameter x))

unfoldable pub XLow : List ℕ → ℕ
XLow x =
    sheath_reactance_low (reactance_low (Field.frequency x))
    (spacing_log_low (Field.arrangement x) (Field.spacing x) (Field.sheath_diameter x))

-- whether the dielectric loss counts: U0 is at least the voltage from which it does
unfoldable pub loss_counts : List ℕ → Bool
loss_counts x = leb (Field.loss_voltage x) (Field.voltage x)

unfoldable pub Wd : List ℕ → ℕ
Wd x =
    cond (loss_counts x)
    (dielectric_loss (Field.permittivity x) (Field.voltage x) (Field.loss_factor x) (B x)
    (log_low (Field.insulation_diameter x) (Field.screen_diameter x)))
    0

-- θc - θa, which refusal 6 keeps at 500 or above
unfoldable pub rise_of : List ℕ → ℕ
rise_of x = nat_abs (Field.conductor_temperature x -ℤ Field.ambient_temperature x)

-- θx - θa, which refusal 31 keeps at 0 or above where soil dries out
unfoldable pub isotherm_rise_of : List ℕ → ℕ
isotherm_rise_of x = nat_abs (Field.isotherm x -ℤ Field.ambient_temperature x)

-- what dry soil makes of T4, in 10^-9 K·m/W, and of the permitted rise, the paper's P, in 10^-9 K

unfoldable pub soil_T4 : List ℕ → ℕ
soil_T4 x = soil_resistance (Field.dry_ratio x) (Field.t4 x)

unfoldable pub permitted_of : List ℕ → ℕ
permitted_of x = permitted_rise (Field.dry_ratio x) (rise_of x) (isotherm_rise_of x)

-- the rise of the conductor by the sun's heat, in 10^-9 K
unfoldable pub solar_rise_of : List ℕ → ℕ
solar_rise_of x = solar_rise (Field.solar_heat x) (Field.t4 x)
