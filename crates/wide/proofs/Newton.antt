-- Newton's steps for a square root, on any numbers: a step from any r above 0 comes to the root or above, and one from r
-- above the root comes below r. Assumes nothing.
use Rattle.std.proofs.Common.{subst, ℕ, ◌+◌, ◌*◌, ◌/◌, ◌≤◌, ◌<◌}
use Rattle.std.proofs.Common.{mul-le-mul, mul-le-mul_right, lt_of_mul-lt-mul_right, div-mul-le_self, arith}
use Rattle.std.proofs.Math.Nat.{le_dest, lt-div-mul-add}
use Rattle.std.proofs.Math.Decide.{dec_le}

-- the square of a u32 fits a limb
pub halves : {x y : ℕ} → x < 4294967296 → y < 4294967296 → x * y ≤ 18446744065119617025
halves p q = mul-le-mul {n₂ = 4294967295} {m₂ = 4294967295} (omega arith) (omega arith)

squares_at : {a b : ℕ} → a ≤ b → 2 * (a * b) ≤ a * a + b * b
squares_at {a} {b} h = subst (λ (x : ℕ). 2 * (a * x) ≤ a * a + x * x) (le_dest h).1 (apart (le_dest h).0)
  where
    apart : (d : ℕ) → 2 * (a * (a + d)) ≤ a * a + (a + d) * (a + d)
    apart d = omega arith

squares : (a b : ℕ) → 2 * (a * b) ≤ a * a + b * b
squares a b = either (dec_le a b)
  where
    either : Dec (a ≤ b) → 2 * (a * b) ≤ a * a + b * b
    either (yes h) = squares_at h
    either (no f) = omega (arith, squares_at {a = b} {b = a} (omega (arith, f)))

abbrev pub step : ℕ → ℕ → ℕ
step n r = (r + n / r) / 2

pub step_above : (n r : ℕ) → 0 < r → n < (step n r + 1) * (step n r + 1)
step_above n r r>0 =
    omega (
      arith,
      squares (step n r + 1) r,
      lt-div-mul-add {a = n} {b = r} r>0,
      mul-le-mul_right {m = r + n / r + 1} {n = 2 * (step n r + 1)} r (omega arith),
    )

pub step_below : (n r : ℕ) → n < r * r → step n r < r
step_below n r above =
    let less : n / r < r = lt_of_mul-lt-mul_right r {m = n / r} {n = r} (omega (arith, div-mul-le_self n r)) in omega arith
