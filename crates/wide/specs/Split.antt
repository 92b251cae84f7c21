-- A division's answer: a quotient and a rest. Assumes nothing.
use Rattle.std.specs.Prelude.{◌≡◌, cond, ℕ, ◌+◌, ◌*◌, ◌<◌, eqb}

-- n is q times c, and r below c is left over
pub record Split (n c q r : ℕ) : Type 0 where
  pub whole : q * c + r ≡ n
  pub below : r < c

-- the quotient, and one more where something is left over
unfoldable pub upward : ℕ → ℕ → ℕ
upward q r = cond (eqb r 0) q (q + 1)
