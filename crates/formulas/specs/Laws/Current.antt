-- What a rating is: the largest current whose rise is within the permitted one. Assumes nothing.
use Rattle.std.specs.Prelude.{ℕ, ◌+◌, ◌*◌, ◌^◌, ◌≤◌, ◌<◌}

-- i is the largest current with i² E ≤ 10^13 N
pub record IsRating (n e i : ℕ) : Type 0 where
  pub carried : i * i * e ≤ 10 ^ 13 * n
  pub no_more : 10 ^ 13 * n < (i + 1) * (i + 1) * e
