-- Stage 5's k is what docs/RATING.md says it is: the largest with 2^k b ≤ a. Assumes nothing.
use Rattle.std.specs.Prelude.{◌≡◌, refl, Bool, true, false, cond, ℕ, zero, suc, ◌*◌, ◌^◌, ◌≤◌, ◌<◌, leb}
use Rattle.std.proofs.Common.{ap, pow-suc, le_antisymm, lt_of_not-le, lt_of_lt_of_le, lt_of_mul-lt-mul_right, le-mul_of_pos_right}
use Rattle.std.proofs.Common.{arith, pow_mono, leb-true, leb-false}
use Rattle.std.proofs.Math.Nat.{pow-zero}
use Rattle.formulas.specs.Logarithm.{doublings, octaves}

-- k is the largest with 2^k b ≤ a
pub record Largest (a b k : ℕ) : Type 0 where
  pub below : 2 ^ k * b ≤ a
  pub above : a < 2 * (2 ^ k * b)

largest_at_most : {a b j k : ℕ} → Largest a b j → Largest a b k → j ≤ k
largest_at_most {b = b} {j} {k} p q =
    let powers : 2 ^ j < 2 ^ k * 2 = lt_of_mul-lt-mul_right b (omega arith) in
    omega (arith, lt_of_not-le {n = suc k} {m = j} (λ k<j. omega (arith, pow_mono k<j, pow-suc 2 k)))

pub largest_only : {a b j k : ℕ} → Largest a b j → Largest a b k → j ≡ k
largest_only p q = le_antisymm (largest_at_most p q) (largest_at_most q p)

largest_none : {a b : ℕ} → b ≤ a → a < 2 * b → Largest a b 0
largest_none b≤a a< = record { below = omega arith; above = omega arith }

largest_more : {a b k : ℕ} → Largest a (2 * b) k → Largest a b (suc k)
largest_more {b = b} {k} p =
    let twice : 2 ^ suc k * b ≡ 2 ^ k * 2 * b = ap (λ x. x * b) (pow-suc 2 k) in
    record { below = omega arith; above = omega arith }

doubling : (a b more : ℕ) → b ≤ a → (2 * b ≤ a → Largest a (2 * b) more) → Largest a b (cond (leb (2 * b) a) (suc more) 0)
doubling a b more b≤a next = go (leb (2 * b) a) refl
  where
    go : (again : Bool) → leb (2 * b) a ≡ again → Largest a b (cond again (suc more) 0)
    go true e = largest_more (next (leb-true (2 * b) a e))
    go false e = largest_none b≤a (leb-false (2 * b) a e)

doublings_largest : (most a b : ℕ) → 0 < b → b ≤ a → a < 2 ^ most * b → Largest a b (doublings most a b)
unfolding doublings
doublings_largest zero a b b>0 b≤a a< = record { below = omega (arith, pow-zero 2); above = omega (arith, pow-zero 2) }
doublings_largest (suc most) a b b>0 b≤a a< =
    doubling a b (doublings most a (2 * b)) b≤a
    (λ again. doublings_largest most a (2 * b) (omega arith) again (omega (arith, ap (λ x. x * b) (pow-suc 2 most))))

below_power : (a : ℕ) → a < 2 ^ a
below_power zero = omega (arith, pow-zero 2)
below_power (suc a) = omega (arith, pow-suc 2 a, below_power a)

pub octaves_largest : (a b : ℕ) → 0 < b → b ≤ a → Largest a b (octaves a b)
unfolding octaves
octaves_largest a b b>0 b≤a =
    doublings_largest a a b b>0 b≤a (lt_of_lt_of_le (below_power a) (le-mul_of_pos_right (2 ^ a) b>0))
