-- A field within its limits (docs/RATING.md, 'The fields of a case'). Assumes nothing.
use Rattle.std.specs.Prelude.{Bool, ◌&&◌, ℕ, leb, ℤ}
use Rattle.std.specs.Int.Signed.{le_z}

-- a field from low to high, the ends included
abbrev pub within : ℕ → ℕ → ℕ → Bool
within low high n = leb low n && leb n high

-- a temperature from low to high
abbrev pub within_z : ℤ → ℤ → ℤ → Bool
within_z low high θ = le_z low θ && le_z θ high
