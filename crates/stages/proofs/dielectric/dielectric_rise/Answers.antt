-- `stages::dielectric::dielectric_rise` is the definition: one quotient.
use Rattle.std.proofs.Common.{lit<, mul-le-mul}
use Rattle.formulas.specs.Dielectric.{dielectric_resistance, dielectric_rise}
use Rattle.formulas.proofs.Laws.Ranges.{dielectric_resistance_most}
use Rattle.formulas.specs.Laws.Bounds.{most_dielectric_rise}
use Rattle.stages.proofs.Quotients.{quotient_up_fits}
use Rattle.stages.proofs.dielectric.dielectric_rise.Goals as goal
use Rattle.stages.proofs.dielectric.dielectric_rise.Goals.{Start}

pub mul_div-requires : goal.mul_div-requires
unfolding dielectric_resistance
mul_div-requires c = let t = c.requires.thermal in
    let t≤ = dielectric_resistance_most c.requires.n_most t.t1_most t.t2_most t.t3_most t.t4_most in
    quotient_up_fits most_dielectric_rise (lit< tt) (mul-le-mul c.requires.wd_most t≤) tt

pub returns : goal.returns
unfolding dielectric_rise dielectric_resistance
returns c = c.mul_div.ensures
