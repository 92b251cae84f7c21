-- docs/RATING.md, stage 3: the skin effect, from the frequency f, ks (or kp) in thousandths and R'. Assumes nothing.
use Rattle.std.specs.Prelude.{ℕ, ◌+◌, ◌*◌, ◌^◌}
use Rattle.exact.specs.Rounding.{up}
use Rattle.exact.specs.Fraction.{Fraction, whole, ◌+F◌, ◌*F◌, ◌/F◌, square}
use Rattle.formulas.specs.Constants.{tera, pi_high}

-- the paper's A: 8πf × 10^-7 k Ω/m, in 10^-16 Ω/m
unfoldable pub skin_reactance : ℕ → ℕ → ℕ
skin_reactance f k = up (f * pi_high * k) 125000

-- the paper's z, the standard's x²
unfoldable pub skin_ratio : ℕ → ℕ → ℕ → ℕ
skin_ratio f k r' = up (skin_reactance f k * tera) r'

-- the paper's w, the standard's x^4
unfoldable pub skin_ratio_squared : ℕ → ℕ
skin_ratio_squared z = up (z * z) tera

-- the paper's factor, x^4/(192 + 0.8 x^4)
unfoldable pub factor : ℕ → ℕ
factor w = up (5 * w * tera) (960 * tera + 4 * w)

-- the factor of f, k and R': with ks the paper's ys, with kp its G
unfoldable pub skin_factor : ℕ → ℕ → ℕ → ℕ
skin_factor f k r' = factor (skin_ratio_squared (skin_ratio f k r'))

unfoldable pub skin_reactance* : Fraction → ℕ → ℕ → Fraction
skin_reactance* π f k = whole (8 * f * k * 10 ^ 4) *F π

unfoldable pub skin_ratio* : Fraction → ℕ → ℕ → ℕ → Fraction
skin_ratio* π f k r' = skin_reactance* π f k /F whole r'

unfoldable pub factor* : Fraction → Fraction
factor* w = whole 5 *F w /F (whole 960 +F whole 4 *F w)

unfoldable pub skin_factor* : Fraction → ℕ → ℕ → ℕ → Fraction
skin_factor* π f k r' = factor* (square (skin_ratio* π f k r'))
