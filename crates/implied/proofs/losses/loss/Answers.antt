-- `implied::losses::loss` is the definition, and small.
use Rattle.std.proofs.Common.{◌≡◌, arith}
use Rattle.implied.specs.Implied.{loss}
use Rattle.implied.proofs.Sizes.{loss_small}
use Rattle.implied.proofs.losses.loss.Goals as goal

is_loss : (c : goal.After-nearest) → c.nearest.result ≡ loss c.args.rating c.args.r
unfolding loss
is_loss c = cc

pub returns-clause-value : goal.returns-clause-value
returns-clause-value = is_loss

pub returns-clause-small : goal.returns-clause-small
returns-clause-small c =
    omega (arith, is_loss c, loss_small c.args.rating c.args.r (omega (arith, c.ranges.rating)) (omega (arith, c.ranges.r)))
