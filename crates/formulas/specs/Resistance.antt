-- docs/RATING.md, stage 1: a resistance at a temperature. It is exact, so it stands once. Assumes nothing.
use Rattle.std.specs.Prelude.{ℕ, ◌*◌, ℤ, pos, ◌+ℤ◌, ◌-ℤ◌, ◌*ℤ◌, nat_abs}

-- 10^7 + α(θ - 2000), of a temperature θ that may be below zero
unfoldable pub temperature_factor : ℕ → ℤ → ℤ
temperature_factor α θ = pos 10000000 +ℤ pos α *ℤ (θ -ℤ pos 2000)

-- field × (10^7 + α(θ - 2000)), in 10^-16 Ω/m: the paper's R', Rs and RA. Within the limits the factor is above 0 (Laws.Temperature).
unfoldable pub resistance : ℕ → ℕ → ℤ → ℕ
resistance field α θ = field * nat_abs (temperature_factor α θ)
