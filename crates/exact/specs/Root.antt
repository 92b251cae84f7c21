-- The integer square root: what it is, and a function that computes it. The rating of docs/RATING.md, stage 10, is such a root.
-- Assumes nothing.
use Rattle.std.specs.Prelude.{cond, ℕ, zero, suc, ◌+◌, ◌*◌, ◌/◌, ◌≤◌, ◌<◌, leb, eqb}

-- r is the integer square root of x
pub record IsRoot (x r : ℕ) : Type 0 where
  pub below : r * r ≤ x
  pub above : x < (r + 1) * (r + 1)

-- one digit in base 4: from the root r of x/4 to the root of x
unfoldable pub next : ℕ → ℕ → ℕ
next x r = cond (leb ((2 * r + 1) * (2 * r + 1)) x) (2 * r + 1) (2 * r)

-- the root of x, which has at most `digits` digits in base 4
unfoldable pub steps : ℕ → ℕ → ℕ
steps zero x = 0
steps (suc digits) x = let r = next x (steps digits (x / 4)) in cond (eqb x 0) 0 r

unfoldable pub root : ℕ → ℕ
unfolding steps next
root x = steps x x
