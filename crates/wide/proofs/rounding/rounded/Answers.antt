-- `wide::rounding::rounded` meets its contract: `/` and `%` are a quotient and a rest. Assumes nothing.
use Rattle.std.proofs.Common.{refl}
use Rattle.wide.specs.Laws.Split.{divided}
use Rattle.wide.proofs.Carried.{rounded_is}
use Rattle.wide.proofs.rounding.rounded.Goals as goal

pub returns : goal.returns
returns g c = rounded_is _ g.met.R.Rounding.rounds refl (divided c.args.n c.requires) c.carry.ensures
