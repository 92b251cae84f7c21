-- `wide::quotient::quotient` meets its contract: with what the rest adds, the quotient is at most the number, which two limbs
-- hold. Assumes nothing.
use Rattle.std.proofs.Common.{arith, lt_of_le_of_lt, ◌^◌, refl}
use Rattle.std.proofs.Math.Arith.{digits_lt}
use Rattle.wide.specs.Limbs.{value}
use Rattle.wide.proofs.Carried.{rounded_is, at_most_number}
use Rattle.wide.proofs.quotient.quotient.Goals as goal

pub sum-requires : goal.sum-requires
unfolding value
sum-requires g c =
    let most = g.met.R.Rounding.carry_most c.divided-d.result.rest in
    lt_of_le_of_lt (at_most_number c.requires c.divided-d.ensures (omega (arith, most)))
    (digits_lt {m = 2 ^ 64} (omega arith) (omega arith))

pub returns : goal.returns
unfolding value
returns g c = omega (arith, c.sum.ensures, rounded_is _ g.met.R.Rounding.rounds refl c.divided-d.ensures c.carry.ensures)
