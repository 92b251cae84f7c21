-- The answer of `stages::logarithm::reduce`, with its parts named. Assumes nothing.
use Rattle.std.specs.Prelude.{◌≡◌, ℕ, ◌+◌, ◌-◌}
use Rattle.formulas.specs.Logarithm.{octaves, doubled}

-- the octaves of a/b, and the ζ that they leave, as num over den
pub record IsReduced (a b count num den : ℕ) : Type 0 where
  pub octaves_are : count ≡ octaves a b
  pub num_is : num ≡ a - doubled a b
  pub den_is : den ≡ a + doubled a b
