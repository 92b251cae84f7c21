-- What the functions of this crate ask of their arguments where that is more than one fact, and the answers that are handed on with
-- their range. Assumes nothing.
use Rattle.std.specs.Prelude.{◌≡◌, ℕ, ◌+◌, ◌*◌, ◌^◌, ◌≤◌, ◌<◌}

-- there is a quotient by c, and q, rounded either way, is one limb
pub record QuotientFits (c q : ℕ) : Type 0 where
  pub c>0 : 0 < c
  pub fits : q < 2 ^ 64

-- of a digit of the quotient of u·2^32 + next by v
pub record DigitRanges (u next v : ℕ) : Type 0 where
  pub v_least : 2 ^ 63 ≤ v
  pub u_below : u < v
  pub next_below : next < 2 ^ 32

-- r is left of a after b, with v added to a where b is more
pub record IsRemaining (a b v r : ℕ) : Type 0 where
  pub enough : b ≤ a → r + b ≡ a
  pub short : a < b → r + b ≡ a + v

-- of a guess at a root
pub record GuessRange (g : ℕ) : Type 0 where
  pub g>1 : 1 < g
  pub g_below : g < 2 ^ 63

-- r is the root of x or above it, and half a limb
pub record RootOrAbove (x r : ℕ) : Type 0 where
  pub r_below : r < 4294967296
  pub above : x < (r + 1) * (r + 1)
