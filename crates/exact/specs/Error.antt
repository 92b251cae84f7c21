-- Relative and absolute error. `Within r c x y` says that y is x or above it, by at most r parts in 10^12 of y and c more. The lower
-- of two values is always written first, whichever of the two is the exact one. Assumes nothing.
use Rattle.std.specs.Prelude.{ℕ}
use Rattle.exact.specs.Fraction.{Fraction, ◌over◌, ◌+F◌, ◌*F◌, ◌≤F◌}
use Rattle.exact.specs.Trillion.{trillion}

-- r parts in 10^12
unfoldable pub parts : ℕ → Fraction
parts r = r over trillion

pub record Within (r : ℕ) (c x y : Fraction) : Type 0 where
  pub below : x ≤F y
  pub close : y ≤F x +F (parts r *F y +F c)
