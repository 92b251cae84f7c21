-- docs/RATING.md, stage 9: the dielectric loss, the rise that it causes, and what is left of the permitted rise for the current. Assumes
-- nothing.
use Rattle.std.specs.Prelude.{ℕ, ◌+◌, ◌-◌, ◌*◌, ◌^◌}
use Rattle.exact.specs.Rounding.{up}
use Rattle.exact.specs.Fraction.{Fraction, whole, ◌*F◌, ◌/F◌}

-- the paper's Wd in 10^-12 W/m, from e, U0, t, B and l, the lower end of the logarithm of Di/ds
unfoldable pub dielectric_loss : ℕ → ℕ → ℕ → ℕ → ℕ → ℕ
dielectric_loss e u0 t b l = up (e * (u0 * u0) * t * b) (360 * l)

-- the thermal resistance that the loss meets, twice over, in 10^-9 K·m/W: T1 counts half, and the rest n times. t1 to t3
-- are in 10^-6 K·m/W, and t4 in 10^-9.
unfoldable pub dielectric_resistance : ℕ → ℕ → ℕ → ℕ → ℕ → ℕ
dielectric_resistance n t1 t2 t3 t4 = 1000 * t1 + 2 * n * (1000 * (t2 + t3) + t4)

-- the paper's dd in 10^-9 K
unfoldable pub dielectric_rise : ℕ → ℕ → ℕ → ℕ → ℕ → ℕ → ℕ
dielectric_rise n wd t1 t2 t3 t4 = up (wd * dielectric_resistance n t1 t2 t3 t4) (2 * 10 ^ 12)

-- the paper's N, from the permitted rise and the paper's d0, the rise with no current. Refusal 10 keeps d0 below the permitted rise.
unfoldable pub current_rise : ℕ → ℕ → ℕ
current_rise permitted d0 = permitted - d0

-- from a logarithm of Di/ds itself, where l above is T times as large
unfoldable pub dielectric_loss* : ℕ → ℕ → ℕ → Fraction → Fraction → Fraction
dielectric_loss* e u0 t b log = whole (e * (u0 * u0) * t) *F b /F (whole (360 * 10 ^ 12) *F log)

unfoldable pub dielectric_rise* : ℕ → Fraction → ℕ → ℕ → ℕ → ℕ → Fraction
dielectric_rise* n wd t1 t2 t3 t4 = wd *F whole (dielectric_resistance n t1 t2 t3 t4) /F whole (2 * 10 ^ 12)
