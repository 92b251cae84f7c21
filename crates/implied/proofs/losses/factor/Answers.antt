-- `implied::losses::factor` is the definition, and small.
use Rattle.std.proofs.Common.{◌≡◌, arith}
use Rattle.implied.specs.Implied.{factor}
use Rattle.implied.proofs.Sizes.{factor_small}
use Rattle.implied.proofs.losses.factor.Goals as goal

is_factor : (c : goal.After-nearest) → c.nearest.result ≡ factor c.args.s c.args.r
unfolding factor
is_factor c = cc

pub returns-clause-value : goal.returns-clause-value
returns-clause-value = is_factor

pub returns-clause-small : goal.returns-clause-small
returns-clause-small c = omega (arith, is_factor c, factor_small c.args.s c.args.r (omega (arith, c.ranges.s)))
