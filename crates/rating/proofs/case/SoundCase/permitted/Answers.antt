-- `permitted` is the definition, and it fits.
use Rattle.std.proofs.Common.{arith, ◌≡◌, ◌+◌, ◌-◌, ◌*◌}
use Rattle.formulas.specs.Soil.{permitted_rise}
use Rattle.rating.specs.Values.{rise_of, permitted_of}
use Rattle.rating.proofs.Laws.Rise.{rise_range}
use Rattle.rating.proofs.Laws.Ranges.{permitted_range}
use Rattle.rating.proofs.case.SoundCase.permitted.Goals as goal
use Rattle.rating.proofs.case.SoundCase.permitted.Goals.{After-isotherm_rise}

is :
    (c : After-isotherm_rise) →
    10000000 * c.rise.result + 10000 * (c.soil_ratio.result - 1000) * c.isotherm_rise.result ≡ permitted_of c.args.self.now.x
unfolding permitted_of permitted_rise
is c =
    let rise = c.rise.ensures in
    let ratio = c.soil_ratio.ensures in
    let isotherm_rise = c.isotherm_rise.ensures in
    λ i. 10000000 * rise i + 10000 * (ratio i - 1000) * isotherm_rise i

pub overflow_mul-result : goal.overflow_mul-result
unfolding rise_of
overflow_mul-result c = omega (arith, c.rise.ensures, rise_range c.args.self.now.sound)

pub overflow_mul-result-3 : goal.overflow_mul-result-3
overflow_mul-result-3 c = omega (arith, is (goal.at.overflow_mul-result-3 c).After-isotherm_rise, permitted_range c.args.self.now.sound)

pub overflow_add-result : goal.overflow_add-result
overflow_add-result c = omega (arith, is (goal.at.overflow_add-result c).After-isotherm_rise, permitted_range c.args.self.now.sound)

pub returns : goal.returns
returns c = is (goal.at.returns c).After-isotherm_rise
