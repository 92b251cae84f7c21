-- What a rounding's two laws say of a division that is done in steps: of the number that the answer is for, and of how large it is.
-- Assumes nothing.
use Rattle.std.proofs.Common.{◌≡◌, subst, ap, ◌∙◌, ℕ, ◌+◌, ◌*◌, ◌/◌, ◌%◌, ◌^◌, ◌≤◌, ◌<◌, mul-le-mul_left, arith}
use Rattle.exact.specs.Rounding.{down}
use Rattle.wide.specs.Split.{Split}
use Rattle.wide.specs.Laws.Split.{divided, split_down, high_below}

module _ {round : ℕ → ℕ → ℕ} (carry : ℕ → ℕ) (rounds : (n c q r : ℕ) → Split n c q r → q + carry r ≡ round n c) where
  at_least_down : (n : ℕ) {c : ℕ} → 0 < c → down n c ≤ round n c
  at_least_down n {c} c>0 =
      let parts = divided n c>0 in omega (arith, split_down parts, rounds n c (n / c) (n % c) parts)

  -- the upper limb of a number whose rounded quotient is one limb is below the divisor
  pub high_fits : (h l : ℕ) {n c : ℕ} → 0 < c → h * 2 ^ 64 + l ≡ n → round n c < 2 ^ 64 → h < c
  high_fits h l {n} c>0 number fits = high_below h l (2 ^ 64) c>0 number (omega (arith, at_least_down n c>0))

  -- the quotient and what the rest k adds
  pub rounded_is : {m n c q r k : ℕ} → m ≡ n → Split m c q r → k ≡ carry r → q + k ≡ round n c
  rounded_is {m} {n} {c} {q} {r} number parts carried =
      ap (λ (x : ℕ). q + x) carried ∙ rounds n c q r (subst (λ (x : ℕ). Split x c q r) number parts)

-- which is at most the number
pub at_most_number : {n c q r k : ℕ} → 0 < c → Split n c q r → k ≤ r → q + k ≤ n
at_most_number {n} {c} {q} c>0 parts carried = omega (arith, mul-le-mul_left {m = 1} {n = c} q c>0)
