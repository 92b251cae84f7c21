-- docs/RATING.md, 'The refusals': those that look at the fields alone, 1 to 7 and 31 to 33, each as a test that refuses; their order; and
-- the number of the first that does. Assumes nothing.
use Rattle.std.specs.Prelude.{Bool, not, ◌&&◌, ◌||◌, List, [], ◌∷◌, ℕ, ◌*◌, eqb, leb, ltb, pos, neg_ℤ, ◌-ℤ◌}
use Rattle.std.specs.Int.Signed.{le_z}
use Rattle.bools.specs.First.{Refusal, or_refused}
use Rattle.fields.specs.Fields as Field
use Rattle.rating.specs.Within.{within, within_z}
use Rattle.rating.specs.Arrangements.{own}

-- 1
abbrev pub arrangement_refused : List ℕ → Bool
arrangement_refused x = not (own x).known

-- 2
unfoldable pub conductor_refused : List ℕ → Bool
conductor_refused x = not (within 1 8 (Field.conductor x))

-- the current of the arrangement is direct
abbrev pub direct : List ℕ → Bool
direct x = not (own x).alternates

-- 3, in four groups: fields 3 to 6 and 8 to 10; 2, 7 and 11 to 16, which only an alternating current has; 22 to 25; and 26 to 29. The
-- arrangement has the limits of fields 17 to 21.
unfoldable pub conductor_limits : List ℕ → Bool
conductor_limits x =
    within_z (pos 4000) (pos 25000) (Field.conductor_temperature x)
    && within_z (neg_ℤ (pos 4000)) (pos 6000) (Field.ambient_temperature x)
    && within 5000 20000000 (Field.conductor_resistance x)
    && within 100 10000 (Field.conductor_diameter x)
    && within 100 20000 (Field.screen_diameter x)
    && within 100 30000 (Field.insulation_diameter x)
    && within 0 300000 (Field.voltage x)

unfoldable pub alternating_limits : List ℕ → Bool
alternating_limits x =
    within 1000 6500 (Field.frequency x)
    && within 100 1000000 (Field.spacing x)
    && within 100 800 (Field.permittivity x)
    && within 1 10000 (Field.loss_factor x)
    && within 100 50000 (Field.sheath_diameter x)
    && within 1 6 (Field.sheath_metal x)
    && within 1000 20000000 (Field.sheath_resistance x)
    && within_z (neg_ℤ (pos 4000)) (pos 25000) (Field.sheath_temperature x)

unfoldable pub thermal_limits : List ℕ → Bool
thermal_limits x =
    within 1000 10000000 (Field.t1 x)
    && within 0 10000000 (Field.t2 x)
    && within 0 10000000 (Field.t3 x)
    && within 10000 20000000 (Field.t4 x)

-- no soil dries out: ρ is 0
unfoldable pub moist : List ℕ → Bool
moist x = eqb (Field.dry_ratio x) 0

unfoldable pub further_limits : List ℕ → Bool
further_limits x =
    within 0 300000 (Field.loss_voltage x)
    && (moist x || within 1000 5000 (Field.dry_ratio x))
    && within_z (neg_ℤ (pos 4000)) (pos 25000) (Field.isotherm x)
    && within 0 200000 (Field.solar_heat x)

unfoldable pub limit_refused : List ℕ → Bool
limit_refused x =
    not
    (conductor_limits x
    && (direct x || alternating_limits x)
    && thermal_limits x
    && further_limits x
    && (own x).limits x)

-- field 28 is zero where no soil dries out
unfoldable pub isotherm_unused : List ℕ → Bool
isotherm_unused x = not (moist x) || eqb (Field.word x 28) 0

-- 4: field 28 is not zero where it must be, or one that the arrangement does not have
unfoldable pub stray_refused : List ℕ → Bool
stray_refused x = not (isotherm_unused x && (own x).unused x)

-- 5: not dc ≤ ds, or 105 ds > 100 Di, or, where the current alternates, not Di ≤ d; the arrangement adds how its cores or cables lie
unfoldable pub geometry_refused : List ℕ → Bool
geometry_refused x =
    not
    (leb (Field.conductor_diameter x) (Field.screen_diameter x)
    && leb (105 * Field.screen_diameter x) (100 * Field.insulation_diameter x)
    && (direct x || leb (Field.insulation_diameter x) (Field.sheath_diameter x))
    && (own x).geometry x)

-- 6: θc - θa is below 500, or the sheath is hotter than θc, or what armour the arrangement has
unfoldable pub heat_refused : List ℕ → Bool
heat_refused x =
    not
    (le_z (pos 500) (Field.conductor_temperature x -ℤ Field.ambient_temperature x)
    && le_z (Field.sheath_temperature x) (Field.conductor_temperature x)
    && (own x).heat x)

-- 31: soil dries out, and not θa ≤ θx ≤ θc
unfoldable pub isotherm_refused : List ℕ → Bool
isotherm_refused x =
    not
    (moist x
    || within_z (Field.ambient_temperature x) (Field.conductor_temperature x) (Field.isotherm x))

-- 32: neither ρ nor the sun's heat is 0
unfoldable pub sun_refused : List ℕ → Bool
sun_refused x = not (moist x || eqb (Field.solar_heat x) 0)

-- 7: sheath or armour is not of the metal that the arrangement asks for
unfoldable pub metal_refused : List ℕ → Bool
metal_refused x = not ((own x).metal x)

-- 33: direct current of more than 5 kV
unfoldable pub direct_voltage_refused : List ℕ → Bool
direct_voltage_refused x = direct x && ltb 5000 (Field.voltage x)

-- in the order in which they are tried
unfoldable pub field_refusals : List ℕ → List Refusal
field_refusals x =
    record { number = 1; given = arrangement_refused x }
    ∷ record { number = 2; given = conductor_refused x }
    ∷ record { number = 3; given = limit_refused x }
    ∷ record { number = 4; given = stray_refused x }
    ∷ record { number = 5; given = geometry_refused x }
    ∷ record { number = 6; given = heat_refused x }
    ∷ record { number = 31; given = isotherm_refused x }
    ∷ record { number = 32; given = sun_refused x }
    ∷ record { number = 7; given = metal_refused x }
    ∷ record { number = 33; given = direct_voltage_refused x }
    ∷ []

-- the number of the first that is given, or 0
abbrev pub field_refusal : List ℕ → ℕ
field_refusal x = or_refused (λ n. n) (field_refusals x) 0
