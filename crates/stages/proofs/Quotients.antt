-- What `wide`'s quotients require: the divisor is above 0, and the quotient fits, since it is at most a number that does. Stated once
-- over the rounding. Assumes nothing.
use Rattle.std.proofs.Common.{◌≡◌, refl, min, suc-ne-zero, ℕ, zero, suc, ◌/◌, ◌%◌, ◌*◌, ◌^◌, ◌≤◌, ◌<◌, T}
use Rattle.std.proofs.Common.{le_trans, lt_of_le_of_lt, mul-le-mul, arith, leb, ltb, lit<, lit≤}
use Rattle.std.specs.Int.{div_ceil}
use Rattle.exact.specs.Rounding.{up, down}
use Rattle.exact.specs.Trillion.{trillion}
use Rattle.wide.specs.Split.{upward}
use Rattle.wide.specs.Laws.Ranges.{QuotientFits}
use Rattle.wide.specs.Laws.Split.{divided, up_of_split, upward_none, upward_some}
use Rattle.stages.specs.Laws.Ranges.{SquareFits}
use Rattle.formulas.proofs.Laws.LogRange.{Bounded, up_bounded, down_bounded}

module _ {round : ℕ → ℕ → ℕ} (bounded : Bounded round) where
  pub fits : {a b : ℕ} (k : ℕ) → 0 < b → a ≤ k * b → T (ltb k (2 ^ 64)) → round a b < 2 ^ 64
  fits {a} {b} k b>0 h small = lt_of_le_of_lt (bounded a k b b>0 h) (lit< small)

  quotient : {a b : ℕ} (k : ℕ) → 0 < b → a ≤ k * b → T (ltb k (2 ^ 64)) → QuotientFits b (round a b)
  quotient k b>0 h small = record { c>0 = b>0; fits = fits k b>0 h small }

  -- the square over T of a quotient that is at most m
  pub square_most : (a b m k : ℕ) → 0 < b → a ≤ m * b → T (leb (m * m) (k * trillion)) → round (round a b * round a b) trillion ≤ k
  square_most a b m k b>0 h small =
      let most = bounded a m b b>0 h in
      bounded (round a b * round a b) k trillion (lit< tt) (le_trans (mul-le-mul most most) (lit≤ small))

  pub square_fits :
      {a b : ℕ} (m k : ℕ) → 0 < b → a ≤ m * b → T (ltb m (2 ^ 64)) → T (leb (m * m) (k * trillion)) → T (ltb k (2 ^ 64)) →
      SquareFits round a b
  square_fits {a} {b} m k b>0 h limb small square_limb =
      record { ratio = quotient m b>0 h limb; square = lt_of_le_of_lt (square_most a b m k b>0 h small) (lit< square_limb) }

pub fits_up : {a b : ℕ} (k : ℕ) → 0 < b → a ≤ k * b → T (ltb k (2 ^ 64)) → up a b < 2 ^ 64
fits_up = fits up_bounded

pub quotient_up_fits : {a b : ℕ} (k : ℕ) → 0 < b → a ≤ k * b → T (ltb k (2 ^ 64)) → QuotientFits b (up a b)
quotient_up_fits = quotient up_bounded

pub quotient_down_fits : {a b : ℕ} (k : ℕ) → 0 < b → a ≤ k * b → T (ltb k (2 ^ 64)) → QuotientFits b (down a b)
quotient_down_fits = quotient down_bounded

-- what the library calls a quotient rounded up
pub ceiling : (a : ℕ) {b : ℕ} → 0 < b → div_ceil a b ≡ up a b
ceiling a {b} b>0 = omega (arith, least_of (a % b), up_of_split a b (a / b) (a % b) (divided a b>0))
  where
    least_of : (r : ℕ) → min 1 r ≡ upward 0 r
    least_of zero = omega (arith, upward_none 0 zero refl)
    least_of (suc r) = omega (arith, upward_some 0 (suc r) (suc-ne-zero r))
