-- `stages::resistance::resistance` meets its contract: both factors are small enough for their product, and the second is the
-- absolute value of the paper's factor, which is above 0. Assumes nothing.
use Rattle.std.proofs.Common.{ap₂, nat_abs, ◌*◌}
use Rattle.formulas.specs.Resistance.{resistance}
use Rattle.stages.proofs.resistance.resistance.Goals as goal

pub returns : goal.returns
unfolding resistance
returns c = ap₂ (λ n z. n * nat_abs z) c.from.ensures c.temperature_factor.ensures.factor_is
