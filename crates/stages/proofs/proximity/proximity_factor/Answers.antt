-- `stages::proximity::proximity_factor` is the definition: g and h, and u times their sum.
use Rattle.std.proofs.Common.{ap₂, arith, lit<, mul-le-mul, ◌*◌, ◌+◌, ◌∙◌, ◌≤◌}
use Rattle.exact.specs.Rounding.{up}
use Rattle.exact.specs.Trillion.{trillion}
use Rattle.formulas.specs.Constants.{tera}
use Rattle.formulas.specs.Proximity.{proximity_factor}
use Rattle.formulas.proofs.Laws.Ranges.{proximity_g_most, proximity_h_most}
use Rattle.formulas.specs.Laws.Bounds.{most_proximity_factor}
use Rattle.stages.proofs.Quotients.{fits_up}
use Rattle.stages.proofs.proximity.proximity_factor.Goals as goal
use Rattle.stages.proofs.proximity.proximity_factor.Goals.{After-proximity_h}

sum_most : (c : After-proximity_h) → c.proximity_g.result + c.proximity_h.result ≤ most_proximity_factor
sum_most c =
    let pre = c.requires in
    omega (
      arith,
      proximity_g_most pre.u_most pre.factor_most,
      proximity_h_most pre.factor_most,
      c.proximity_g.ensures,
      c.proximity_h.ensures,
    )

pub mul_div_trillion-requires : goal.mul_div_trillion-requires
mul_div_trillion-requires c = fits_up most_proximity_factor (lit< tt) (omega (arith, mul-le-mul c.requires.u_most (sum_most c))) tt

pub returns : goal.returns
unfolding proximity_factor tera
returns c = let u = c.args.u in
    c.mul_div_trillion.ensures
    ∙ ap₂ (λ g h. up (u * (g + h)) trillion) c.proximity_g.ensures c.proximity_h.ensures

pub overflow_add-proximity_g : goal.overflow_add-proximity_g
overflow_add-proximity_g c = omega (arith, sum_most c)
