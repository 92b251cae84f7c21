-- docs/RATING.md, 'The sun': the rise of the conductor by the sun's heat. Assumes nothing.
use Rattle.std.specs.Prelude.{ℕ, ◌*◌}

-- the paper's Q T4 in 10^-9 K, from the heat taken up in mW/m and from T4, adjusted for radiation, in 10^-6 K·m/W
unfoldable pub solar_rise : ℕ → ℕ → ℕ
solar_rise heat t4 = heat * t4
