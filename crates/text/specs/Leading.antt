-- Digits that stand in a line from one place to another: where they end, their value, and whether they are a number. Assumes nothing.
use Rattle.std.specs.Prelude.{Bool, true, ◌&&◌, List, ◌≡◌, ℕ, ◌+◌, ◌≤◌, min, leb, ltb, length}
use Rattle.text.specs.Gather.{piece}
use Rattle.text.specs.Number.{is_digit, every, value}
use Rattle.text.specs.Words.{run_end}

-- where the digits from `from` on end, of which at most ten are taken
unfoldable pub digits_end : List ℕ → ℕ → ℕ
digits_end s from = min (from + 10) (run_end is_digit s from)

-- digits of the value x
pub record DigitsIn (s : List ℕ) (from to x : ℕ) : Type 0 where
  pub forward : from ≤ to
  pub within : to ≤ length s
  pub digits : every is_digit (piece from to s) ≡ true
  pub amount : value (piece from to s) ≡ x

-- all digits from `from` on, or ten of them
pub record LeadingDigits (s : List ℕ) (from to x : ℕ) : Type 0 where
  pub end : to ≡ digits_end s from
  pub digits : DigitsIn s from to x

-- whether digits from `from` to `to`, of the value x, are a number of at most `limit`
unfoldable pub is_number : ℕ → ℕ → ℕ → ℕ → Bool
is_number from to x limit = ltb from to && leb x limit
