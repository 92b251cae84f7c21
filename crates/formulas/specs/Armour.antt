-- docs/RATING.md, stage 8: the loss in steel wire armour as a resistance, the paper's W, in arrangement 5 only. Assumes nothing.
use Rattle.std.specs.Prelude.{ℕ, ◌+◌, ◌*◌, ◌^◌}
use Rattle.exact.specs.Rounding.{up, down}
use Rattle.exact.specs.Fraction.{Fraction, ◌over◌, whole, ◌+F◌, ◌*F◌, ◌/F◌, square}
use Rattle.formulas.specs.Constants.{tera}

-- the paper's y, from RA and B
unfoldable pub armour_ratio : ℕ → ℕ → ℕ
armour_ratio ra b = down (554 * 10 ^ 9 * ra) b

-- the paper's y2
unfoldable pub armour_ratio_squared : ℕ → ℕ
armour_ratio_squared y = down (y * y) tera

-- the paper's r, from RA and B
unfoldable pub reduced_armour_resistance : ℕ → ℕ → ℕ
reduced_armour_resistance ra b = up (ra * tera) (tera + armour_ratio_squared (armour_ratio ra b))

-- W before the screening, from RA, B, c and dA
unfoldable pub unscreened_loss : ℕ → ℕ → ℕ → ℕ → ℕ
unscreened_loss ra b c dA = up (123 * reduced_armour_resistance ra b * up (4 * (c * c) * tera) (dA * dA)) (10 ^ 14)

-- the screening's v2, from X- and Rs, rounded down throughout: 2.3.1's factor, without arrangement 5's 1.5
unfoldable pub screening_ratio_squared : ℕ → ℕ → ℕ
screening_ratio_squared X rs = let v = down (X * tera) rs in down (v * v) tera

-- W with the screening of the sheaths, from W before it, X- and Rs
unfoldable pub screened_loss : ℕ → ℕ → ℕ → ℕ
screened_loss w X rs = up (w * up (tera * tera) (tera + screening_ratio_squared X rs)) tera

-- W, from RA, B, c, dA, X- and Rs
unfoldable pub armour_loss : ℕ → ℕ → ℕ → ℕ → ℕ → ℕ → ℕ
armour_loss ra b c dA X rs = screened_loss (unscreened_loss ra b c dA) X rs

unfoldable pub armour_ratio* : ℕ → Fraction → Fraction
armour_ratio* ra b = (554 over 1000) *F whole ra /F b

unfoldable pub reduced_armour_resistance* : ℕ → Fraction → Fraction
reduced_armour_resistance* ra b = whole ra /F (whole 1 +F square (armour_ratio* ra b))

unfoldable pub unscreened_loss* : ℕ → Fraction → ℕ → ℕ → Fraction
unscreened_loss* ra b c dA = (123 over 100) *F reduced_armour_resistance* ra b *F (4 * (c * c) over dA * dA)

unfoldable pub armour_loss* : ℕ → Fraction → ℕ → ℕ → Fraction → ℕ → Fraction
armour_loss* ra b c dA X rs = unscreened_loss* ra b c dA /F (whole 1 +F square (X /F whole rs))
