-- The nearest whole number to a/b is within a half of it, and it is the only one that is, but for the half itself, which is rounded up.
-- Assumes nothing.
use Rattle.std.specs.Prelude.{◌≡◌, refl, ℕ, zero, suc, ◌+◌, ◌*◌, ◌≤◌, ◌<◌}
use Rattle.std.proofs.Common.{arith, div-mul-le_self, lt_of_mul-lt-mul_right}
use Rattle.std.proofs.Math.Nat.{div-eq_of_lt-le, div-zero, lt-div-mul-add, mul-le-mul_left}
use Rattle.implied.specs.Nearest.{nearest}

-- half way between 2 and 3, just below and just above it; and where b is 0
halves_up : nearest 5 2 ≡ 3
unfolding nearest
halves_up = refl

less_than_half : nearest 2499 1000 ≡ 2
unfolding nearest
less_than_half = refl

more_than_half : nearest 2501 1000 ≡ 3
unfolding nearest
more_than_half = refl

pub nearest_of_none : (a : ℕ) → nearest a 0 ≡ 0
unfolding nearest
nearest_of_none a = div-zero (2 * a + 0)

-- not above a/b by more than a half
pub nearest_below : (a b : ℕ) → 2 * (nearest a b * b) ≤ 2 * a + b
unfolding nearest
nearest_below a b = omega (arith, div-mul-le_self (2 * a + b) (2 * b))

-- and not below it by a half
pub nearest_above : (a b : ℕ) → 0 < b → 2 * a < 2 * (nearest a b * b) + b
unfolding nearest
nearest_above a b b>0 =
    let twice : 0 < 2 * b = omega arith in
    omega (arith, lt-div-mul-add {a = 2 * a + b} twice)

pub nearest_only : (a b q : ℕ) → 2 * (q * b) ≤ 2 * a + b → 2 * a < 2 * (q * b) + b → nearest a b ≡ q
unfolding nearest
nearest_only a b q below above = div-eq_of_lt-le (2 * b) (omega arith) (omega arith)

-- what is at most a whole number is rounded to no more
pub nearest_most : (a b k : ℕ) → 0 < b → a ≤ k * b → nearest a b ≤ k
nearest_most a b k b>0 h =
    omega (arith, lt_of_mul-lt-mul_right b {m = nearest a b} {n = k + 1} (omega (arith, nearest_below a b)))

-- no quotient is rounded to more than what was divided
pub nearest_at_most_whole : (a b : ℕ) → nearest a b ≤ a
nearest_at_most_whole a zero = omega (arith, nearest_of_none a)
nearest_at_most_whole a (suc b) =
    let divided : 1 ≤ suc b = omega arith in
    nearest_most a (suc b) a (omega arith) (omega (arith, mul-le-mul_left a divided))
