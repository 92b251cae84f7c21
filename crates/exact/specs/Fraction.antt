-- Fractions as docs/RATING.md has them: a whole number over a whole number above 0, two of them compared by multiplying across.
-- A fraction is a bare pair, and each order holds the two denominators above 0, so a bound on a formula also says that the
-- formula has a value, and no law has a side condition for it. Assumes nothing.
use Rattle.std.specs.Prelude.{◌≡◌, ℕ, ◌+◌, ◌*◌, ◌≤◌, ◌<◌}

pub record Fraction : Type 0 where
  pub num : ℕ
  pub den : ℕ

infix 62 ◌over◌
abbrev pub ◌over◌ : ℕ → ℕ → Fraction
n over d = record { num = n; den = d }

abbrev pub whole : ℕ → Fraction
whole n = n over 1

infixl 65 ◌+F◌
unfoldable pub ◌+F◌ : Fraction → Fraction → Fraction
x +F y = x.num * y.den + y.num * x.den over x.den * y.den

infixl 70 ◌*F◌
unfoldable pub ◌*F◌ : Fraction → Fraction → Fraction
x *F y = x.num * y.num over x.den * y.den

-- 1/x. Its denominator is 0 where x is 0: no order holds of it then
unfoldable pub reciprocal : Fraction → Fraction
reciprocal x = x.den over x.num

infixl 70 ◌/F◌
abbrev pub ◌/F◌ : Fraction → Fraction → Fraction
x /F y = x *F reciprocal y

abbrev pub square : Fraction → Fraction
square x = x *F x

infix 50 ◌≤F◌
pub record ◌≤F◌ (x y : Fraction) : Type 0 where
  pub left : 0 < x.den
  pub right : 0 < y.den
  pub across : x.num * y.den ≤ y.num * x.den

infix 50 ◌<F◌
pub record ◌<F◌ (x y : Fraction) : Type 0 where
  pub left : 0 < x.den
  pub right : 0 < y.den
  pub across : x.num * y.den < y.num * x.den

-- equal by multiplying across: the pairs may differ, as 1/2 and 2/4 do
infix 50 ◌≃F◌
pub record ◌≃F◌ (x y : Fraction) : Type 0 where
  pub left : 0 < x.den
  pub right : 0 < y.den
  pub across : x.num * y.den ≡ y.num * x.den
