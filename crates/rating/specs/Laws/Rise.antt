-- θc - θa as a whole number: refusal 6 keeps it at 500 or above, and the limits at 29000 or below. Assumes nothing.
use Rattle.std.specs.Prelude.{◌≡◌, ◌≤◌, ℤ, pos, nat_abs}

-- z is a whole number from 500 to 29000
pub record RiseRange (z : ℤ) : Type 0 where
  pub sign : z ≡ pos (nat_abs z)
  pub least : 500 ≤ nat_abs z
  pub most : nat_abs z ≤ 29000
