-- `stages::skin::skin_ratio` is the definition: one quotient, of the A that `skin_reactance` gives.
use Rattle.std.proofs.Common.{ap, arith, ◌*◌, ◌∙◌, ◌≤◌}
use Rattle.exact.specs.Rounding.{up}
use Rattle.exact.specs.Trillion.{trillion}
use Rattle.formulas.specs.Constants.{tera}
use Rattle.formulas.specs.Skin.{skin_ratio}
use Rattle.formulas.proofs.Laws.Ranges.{skin_reactance_most}
use Rattle.formulas.specs.Laws.Bounds.{most_skin_reactance}
use Rattle.stages.proofs.Quotients.{quotient_up_fits}
use Rattle.stages.proofs.skin.skin_ratio.Goals as goal

pub mul_div-requires : goal.mul_div-requires
mul_div-requires c = let pre = c.requires.reactance in
    let a≤ : c.skin_reactance.result ≤ most_skin_reactance =
    omega (arith, skin_reactance_most pre.f_most pre.k_most, c.skin_reactance.ensures)
    in
    quotient_up_fits 45000000000000 (omega arith) (omega arith) tt

pub returns : goal.returns
unfolding skin_ratio tera
returns c = c.mul_div.ensures
    ∙ ap (λ a. up (a * trillion) c.args.rc) c.skin_reactance.ensures
