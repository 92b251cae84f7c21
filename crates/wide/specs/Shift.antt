-- The shift that brings the top bit of a number to bit 63, as a division and a root begin with it. Assumes nothing.
use Rattle.std.specs.Prelude.{ℕ, ◌*◌, ◌^◌, ◌≤◌, ◌<◌}

pub record IsShift (c s : ℕ) : Type 0 where
  pub small : s < 64
  pub least : 2 ^ 63 ≤ c * 2 ^ s
  pub most : c * 2 ^ s < 2 ^ 64
