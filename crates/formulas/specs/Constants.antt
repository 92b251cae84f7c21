-- docs/RATING.md, 'Notation': T, and the ends of pi and of ln 2. Assumes nothing.
use Rattle.std.specs.Prelude.{ℕ, ◌^◌}
use Rattle.exact.specs.Fraction.{Fraction, ◌over◌, ◌≤F◌}

-- the paper's T
unfoldable pub tera : ℕ
tera = 10 ^ 12

-- the ends of pi, over 10^10
unfoldable pub pi_low : ℕ
pi_low = 31415926535

unfoldable pub pi_high : ℕ
pi_high = 31415926536

-- the ends of ln 2 and of a third of it, over T
unfoldable pub ln2_low : ℕ
ln2_low = 693147180559

unfoldable pub ln2_high : ℕ
ln2_high = 693147180560

unfoldable pub ln2_third_low : ℕ
ln2_third_low = 231049060186

unfoldable pub ln2_third_high : ℕ
ln2_third_high = 231049060187

-- x lies between two ends over a common denominator, the ends included
pub record Between (low high denominator : ℕ) (x : Fraction) : Type 0 where
  pub at_least : low over denominator ≤F x
  pub at_most : x ≤F high over denominator

-- what may stand for pi, for ln 2, and for a logarithm whose ends are low and high
abbrev pub IsPi : Fraction → Type 0
IsPi x = Between pi_low pi_high (10 ^ 10) x

abbrev pub IsLn2 : Fraction → Type 0
IsLn2 x = Between ln2_low ln2_high tera x
