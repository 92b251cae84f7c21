-- `stages::dielectric::dielectric_loss` is the definition: one quotient.
use Rattle.std.proofs.Common.{arith, mul-le-mul, ◌*◌, ◌≤◌}
use Rattle.formulas.specs.Dielectric.{dielectric_loss}
use Rattle.formulas.specs.Laws.Bounds.{most_dielectric_loss}
use Rattle.stages.proofs.Quotients.{quotient_up_fits}
use Rattle.stages.proofs.dielectric.dielectric_loss.Goals as goal
use Rattle.stages.proofs.dielectric.dielectric_loss.Goals.{Start}

voltage_most : (c : Start) → c.args.e * (c.args.u0 * c.args.u0) ≤ 72000000000000
voltage_most c = mul-le-mul c.requires.e_most (mul-le-mul c.requires.u0_most c.requires.u0_most)

product_most : (c : Start) → c.args.e * (c.args.u0 * c.args.u0) * c.args.t ≤ 720000000000000000
product_most c = mul-le-mul (voltage_most c) c.requires.t_most

pub mul_div-requires : goal.mul_div-requires
mul_div-requires c =
    quotient_up_fits most_dielectric_loss (omega arith) (omega (arith, mul-le-mul (product_most c) c.requires.b_most)) tt

pub overflow_mul-e-2 : goal.overflow_mul-e-2
unfolding dielectric_loss
overflow_mul-e-2 c = omega (arith, product_most c)

pub returns : goal.returns
unfolding dielectric_loss
returns c = c.mul_div.ensures
