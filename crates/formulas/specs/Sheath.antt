-- docs/RATING.md, stage 7: the loss in the sheath as a resistance, the paper's S. In arrangements 1, 2 and 5 it comes from the current
-- that circulates through the bonds, in 3 and 4 from eddies; CommonSheath has arrangement 6. Assumes nothing.
use Rattle.std.specs.Prelude.{ℕ, ◌+◌, ◌*◌}
use Rattle.exact.specs.Rounding.{up}
use Rattle.exact.specs.Fraction.{Fraction, ◌over◌, whole, ◌+F◌, ◌*F◌, ◌/F◌, square}
use Rattle.formulas.specs.Constants.{tera}

-- Arrangements 1, 2 and 5.

-- the paper's v, from X and Rs
unfoldable pub bond_ratio : ℕ → ℕ → ℕ
bond_ratio X rs = up (X * tera) rs

-- the paper's v2
unfoldable pub bond_ratio_squared : ℕ → ℕ
bond_ratio_squared v = up (v * v) tera

-- S in arrangements 1 and 2, from X and Rs
unfoldable pub circulating_loss : ℕ → ℕ → ℕ
circulating_loss X rs = let v2 = bond_ratio_squared (bond_ratio X rs) in up (rs * v2) (tera + v2)

-- up(3S/2), the SL type's 1.5 of amendment 2, where the 1994 page has 1.7
unfoldable pub three_halves : ℕ → ℕ
three_halves s = up (3 * s) 2

-- S in arrangement 5
unfoldable pub sl_loss : ℕ → ℕ → ℕ
sl_loss X rs = three_halves (circulating_loss X rs)

-- Arrangements 3 and 4.

-- the paper's m, from B and Rs
unfoldable pub eddy_ratio : ℕ → ℕ → ℕ
eddy_ratio b rs = up (b * tera) (2 * rs)

-- the paper's m2
unfoldable pub eddy_ratio_squared : ℕ → ℕ
eddy_ratio_squared m = up (m * m) tera

-- the paper's e'
unfoldable pub eddy_factor : ℕ → ℕ
eddy_factor m2 = up (m2 * tera) (tera + m2)

-- the paper's g'
unfoldable pub eddy_spacing : ℕ → ℕ → ℕ
eddy_spacing d s = up (d * d * tera) (4 * (s * s))

-- S, from j (1 in arrangement 3, 2 in 4), B, Rs, d and s
unfoldable pub eddy_loss : ℕ → ℕ → ℕ → ℕ → ℕ → ℕ
eddy_loss j b rs d s =
    let e' = eddy_factor (eddy_ratio_squared (eddy_ratio b rs)) in
    up (3 * j * up (rs * e') tera * eddy_spacing d s) tera

unfoldable pub bond_ratio* : Fraction → ℕ → Fraction
bond_ratio* X rs = X /F whole rs

unfoldable pub circulating_loss* : Fraction → ℕ → Fraction
circulating_loss* X rs = let v2 = square (bond_ratio* X rs) in whole rs *F v2 /F (whole 1 +F v2)

unfoldable pub sl_loss* : Fraction → ℕ → Fraction
sl_loss* X rs = (3 over 2) *F circulating_loss* X rs

unfoldable pub eddy_ratio* : Fraction → ℕ → Fraction
eddy_ratio* b rs = b /F whole (2 * rs)

unfoldable pub eddy_factor* : Fraction → Fraction
eddy_factor* m2 = m2 /F (whole 1 +F m2)

unfoldable pub eddy_loss* : ℕ → Fraction → ℕ → ℕ → ℕ → Fraction
eddy_loss* j b rs d s = whole (3 * j) *F whole rs *F eddy_factor* (square (eddy_ratio* b rs)) *F (d * d over 4 * (s * s))
