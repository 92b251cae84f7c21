-- docs/RATING.md, 'Dry soil': what partial drying-out makes of T4 and of the permitted rise. ρ is field 27, document 02's v. Assumes
-- nothing.
use Rattle.std.specs.Prelude.{cond, ℕ, ◌+◌, ◌-◌, ◌*◌, ◌^◌, eqb}

-- ρ as it counts: 1000, dry soil as moist soil, where it is 0
unfoldable pub soil_ratio : ℕ → ℕ
soil_ratio ρ = cond (eqb ρ 0) 1000 ρ

-- T4 with the soil as it is, in 10^-9 K·m/W
unfoldable pub soil_resistance : ℕ → ℕ → ℕ
soil_resistance ρ t4 = soil_ratio ρ * t4

-- the paper's P, the permitted rise in 10^-9 K, from θc - θa and θx - θa in hundredths of a kelvin
unfoldable pub permitted_rise : ℕ → ℕ → ℕ → ℕ
permitted_rise ρ rise isotherm_rise = 10 ^ 7 * rise + 10 ^ 4 * (soil_ratio ρ - 1000) * isotherm_rise
