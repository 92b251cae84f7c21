-- docs/RATING.md, stage 2: 4πf × 10^-7 Ω/m, in 10^-16 Ω/m, from the frequency f in hundredths of Hz. Assumes nothing.
use Rattle.std.specs.Prelude.{ℕ, ◌*◌, ◌^◌}
use Rattle.exact.specs.Rounding.{up, down}
use Rattle.exact.specs.Fraction.{Fraction, whole, ◌*F◌}
use Rattle.formulas.specs.Constants.{pi_low, pi_high}

-- the paper's B
unfoldable pub reactance : ℕ → ℕ
reactance f = up (f * pi_high) 250

-- the paper's B-
unfoldable pub reactance_low : ℕ → ℕ
reactance_low f = down (f * pi_low) 250

unfoldable pub reactance* : Fraction → ℕ → Fraction
reactance* π f = whole (4 * f * 10 ^ 7) *F π
