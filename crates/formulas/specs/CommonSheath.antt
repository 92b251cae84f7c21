-- docs/RATING.md, stage 7 in arrangement 6: the eddy loss of the standard's 2.3.8 in one sheath around three round cores, the paper's S.
-- It has two formulas: one up to a sheath resistance of 100 µΩ/m and one above. Assumes nothing.
use Rattle.std.specs.Prelude.{Bool, cond, ℕ, ◌+◌, ◌*◌, ◌^◌, leb}
use Rattle.exact.specs.Rounding.{up, down}
use Rattle.exact.specs.Fraction.{Fraction, ◌over◌, whole, ◌+F◌, ◌*F◌, ◌/F◌, square}
use Rattle.formulas.specs.Constants.{tera}

-- the largest Rs that the first formula is for, 100 µΩ/m, and whether it is for this one. Rs is not rounded, so S and its exact value take
-- the same formula.

abbrev pub first_formula_limit : ℕ
first_formula_limit = 10 ^ 12

unfoldable pub is_first : ℕ → Bool
is_first rs = leb rs first_formula_limit

-- the paper's b, (2c/d)²
unfoldable pub axis_ratio : ℕ → ℕ → ℕ
axis_ratio c d = up (4 * (c * c) * tera) (d * d)

-- the paper's b2
unfoldable pub axis_ratio_squared : ℕ → ℕ
axis_ratio_squared b = up (b * b) tera

-- the paper's y, Rs × 10^7/ω, from Rs and B
unfoldable pub common_ratio : ℕ → ℕ → ℕ
common_ratio rs B = down (2 * rs * tera) B

-- the paper's y2
unfoldable pub common_ratio_squared : ℕ → ℕ
common_ratio_squared y = down (y * y) tera

-- S up to the limit, from B, Rs and b
unfoldable pub first_formula : ℕ → ℕ → ℕ → ℕ
first_formula B rs b =
    let b2 = axis_ratio_squared b in
    let y2 = common_ratio_squared (common_ratio rs B) in
    up (3 * rs * (up (b * tera) (tera + y2) + up (b2 * tera) (tera + 4 * y2))) tera

-- S above it, from B, Rs and b
unfoldable pub second_formula : ℕ → ℕ → ℕ → ℕ
second_formula B rs b = up (4 * (B * B) * b) (5 * rs * tera)

-- S, from B, Rs, c and d
unfoldable pub common_loss : ℕ → ℕ → ℕ → ℕ → ℕ
common_loss B rs c d =
    let b = axis_ratio c d in
    cond (is_first rs) (first_formula B rs b) (second_formula B rs b)

unfoldable pub axis_ratio* : ℕ → ℕ → Fraction
axis_ratio* c d = 4 * (c * c) over d * d

unfoldable pub common_ratio* : ℕ → Fraction → Fraction
common_ratio* rs B = whole (2 * rs) /F B

unfoldable pub first_formula* : Fraction → ℕ → Fraction → Fraction
first_formula* B rs b =
    let y2 = square (common_ratio* rs B) in
    whole (3 * rs) *F (b /F (whole 1 +F y2) +F square b /F (whole 1 +F whole 4 *F y2))

unfoldable pub second_formula* : Fraction → ℕ → Fraction → Fraction
second_formula* B rs b = (4 over 5) *F square B /F whole rs *F b

unfoldable pub common_loss* : Fraction → ℕ → ℕ → ℕ → Fraction
common_loss* B rs c d =
    let b = axis_ratio* c d in
    cond (is_first rs) (first_formula* B rs b) (second_formula* B rs b)
