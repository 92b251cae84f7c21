-- A number written digit by digit from the front by a fixed count of steps, where each digit takes the place of a zero in front of
-- the number: after the last step the number stands there as `decimal` has it. Assumes nothing.
use Rattle.std.specs.Prelude.{List, [], ◌∷◌, ◌≡◌, ℕ, ◌+◌, ◌%◌, min}
use Rattle.splice.specs.Splice.{splice}

-- a step's store: the last digit of y stands in l at `at`, which makes l to m, and r is the place after it, or its own where y is 0
pub record PutLeading (l : List ℕ) (at y : ℕ) (m : List ℕ) (r : ℕ) : Type 0 where
  pub place_is : r ≡ at + min y 1
  pub list_is : m ≡ splice l at ((y % 10 + 48) ∷ [])
