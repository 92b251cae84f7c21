-- `implied::losses::dielectric_loss` is small, since it is not above what it is rounded from.
use Rattle.std.proofs.Common.{arith}
use Rattle.implied.proofs.Laws.Nearest.{nearest_at_most_whole}
use Rattle.implied.proofs.losses.dielectric_loss.Goals as goal

pub returns-clause-small : goal.returns-clause-small
returns-clause-small c = omega (arith, c.nearest.ensures, nearest_at_most_whole c.from.result 1000000)
