-- docs/RATING.md, stage 4: the proximity effect and the a.c. resistance. Assumes nothing.
use Rattle.std.specs.Prelude.{ℕ, ◌+◌, ◌*◌, ◌^◌}
use Rattle.exact.specs.Rounding.{up}
use Rattle.exact.specs.Fraction.{Fraction, ◌over◌, whole, ◌+F◌, ◌*F◌, ◌/F◌}
use Rattle.formulas.specs.Constants.{tera}

-- the paper's u: (dc/s)²
unfoldable pub spacing_ratio : ℕ → ℕ → ℕ
spacing_ratio dc s = up (dc * dc * tera) (s * s)

-- the paper's h: 1.18 G/(G + 0.27), where G is stage 3's factor with kp
unfoldable pub proximity_h : ℕ → ℕ
proximity_h G = up (118 * G * tera) (100 * G + 27 * tera)

-- the paper's g: 0.312 u G
unfoldable pub proximity_g : ℕ → ℕ → ℕ
proximity_g u G = up (312 * u * G) (10 ^ 15)

-- the paper's yp, from u and G
unfoldable pub proximity_factor : ℕ → ℕ → ℕ
proximity_factor u G = up (u * (proximity_g u G + proximity_h G)) tera

-- the paper's R, from R', ys and yp
unfoldable pub ac_resistance : ℕ → ℕ → ℕ → ℕ
ac_resistance r' ys yp = up (r' * (tera + ys + yp)) tera

unfoldable pub spacing_ratio* : ℕ → ℕ → Fraction
spacing_ratio* dc s = dc * dc over s * s

unfoldable pub proximity_h* : Fraction → Fraction
proximity_h* G = whole 118 *F G /F (whole 100 *F G +F whole 27)

unfoldable pub proximity_g* : Fraction → Fraction → Fraction
proximity_g* u G = (312 over 1000) *F u *F G

unfoldable pub proximity_factor* : Fraction → Fraction → Fraction
proximity_factor* u G = u *F (proximity_g* u G +F proximity_h* G)

unfoldable pub ac_resistance* : ℕ → Fraction → Fraction → Fraction
ac_resistance* r' ys yp = whole r' *F (whole 1 +F ys +F yp)
