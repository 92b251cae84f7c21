-- `stages::skin::skin_reactance` is the definition, as the library rounds up.
use Rattle.std.proofs.Common.{lit<, ◌*◌, ◌∙◌}
use Rattle.formulas.specs.Constants.{pi_high}
use Rattle.formulas.specs.Skin.{skin_reactance}
use Rattle.stages.proofs.Quotients.{ceiling}
use Rattle.stages.proofs.skin.skin_reactance.Goals as goal

pub returns : goal.returns
unfolding skin_reactance pi_high
returns c = c.div_ceil.ensures ∙ ceiling (c.args.f * 31415926536 * c.args.k) (lit< tt)
