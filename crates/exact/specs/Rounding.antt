-- Rounding a quotient to a whole number: docs/RATING.md's up(a/b) and down(a/b). Both are opened in Laws.Rounding and where closed
-- values are computed; everything else uses the laws. Assumes nothing.
use Rattle.std.specs.Prelude.{ℕ, ◌+◌, ◌-◌, ◌/◌}

-- the whole number next below a/b, or a/b itself
unfoldable pub down : ℕ → ℕ → ℕ
down a b = a / b

-- the whole number next above a/b, or a/b itself
unfoldable pub up : ℕ → ℕ → ℕ
up a b = (a + (b - 1)) / b
