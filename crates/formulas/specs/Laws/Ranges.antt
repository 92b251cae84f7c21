-- How large the stages' numbers get within the limits of the fields: what the code of the stages needs so that each product and
-- quotient fits. Each bound is proved from bounds on what goes in. Assumes nothing.
use Rattle.std.specs.Prelude.{ℕ, ◌≤◌}

-- n is at least low and at most high
pub record In (low high n : ℕ) : Type 0 where
  pub least : low ≤ n
  pub most : n ≤ high
