-- `stages::sheath::sl_loss` is the definition, as the library rounds up.
use Rattle.std.proofs.Common.{ap, arith, lit<, ◌*◌, ◌∙◌, ◌≤◌}
use Rattle.exact.specs.Rounding.{up}
use Rattle.formulas.specs.Sheath.{three_halves, sl_loss}
use Rattle.formulas.proofs.Laws.Ranges.{circulating_loss_most}
use Rattle.formulas.specs.Laws.Bounds.{most_resistance}
use Rattle.stages.proofs.Quotients.{ceiling}
use Rattle.stages.proofs.sheath.sl_loss.Goals as goal
use Rattle.stages.proofs.sheath.sl_loss.Goals.{After-circulating_loss}

s_most : (c : After-circulating_loss) → c.circulating_loss.result ≤ most_resistance
s_most c =
    omega
    (arith, circulating_loss_most c.args.x c.args.rs, c.circulating_loss.ensures, c.requires.rs_most)

pub returns : goal.returns
unfolding sl_loss three_halves
returns c = c.div_ceil.ensures ∙ ceiling (3 * c.circulating_loss.result) (lit< tt) ∙ ap (λ s. up (3 * s) 2) c.circulating_loss.ensures

pub overflow_mul-circulating_loss : goal.overflow_mul-circulating_loss
overflow_mul-circulating_loss c = omega (arith, s_most c)
