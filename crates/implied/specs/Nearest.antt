-- Rounding a quotient to the nearest whole number, for what is shown beside a rating. No rating depends on it. Assumes nothing.
use Rattle.std.specs.Prelude.{ℕ, ◌+◌, ◌*◌, ◌/◌}

-- the whole number nearest to a/b, the one above where a/b is half way between two; and 0 where b is 0, as a quotient is then
unfoldable pub nearest : ℕ → ℕ → ℕ
nearest a b = (2 * a + b) / (2 * b)
