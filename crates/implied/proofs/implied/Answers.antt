-- `implied::implied` is the definition: each step is, a factor or loss is its own number of 128 bits with a sign, and a temperature is
-- what is read back of its bits.
use Rattle.std.proofs.Common.{◌≡◌, ℕ, ℤ, arith, lit≤, lt_of_lt_of_le, of_z, pos, to_z, ◌<◌, ◌^◌}
use Rattle.std.specs.Int.{w128}
use Rattle.std.specs.Int.Signed.{mag}
use Rattle.std.proofs.lemmas.Int.{to_z-of_z, to_z_pos}
use Rattle.implied.specs.Implied.{implied}
use Rattle.implied.proofs.implied.Goals as goal

as_it_is : (n : ℕ) → n < 2 ^ 90 → to_z w128 n ≡ pos n
as_it_is n small = to_z_pos w128 n (lt_of_lt_of_le small (lit≤ tt))

read_back : (z : ℤ) → mag z < 2 ^ 127 → to_z w128 (of_z w128 z) ≡ z
read_back z fits = to_z-of_z w128 z (record { sfits = fits })

pub returns : goal.returns
unfolding implied
returns c =
    let sheath_factor = as_it_is c.factor.result (omega (arith, c.factor.ensures.small)) in
    let armour_factor = as_it_is c.factor-2.result (omega (arith, c.factor-2.ensures.small)) in
    let conductor = as_it_is c.loss-conductor.result (omega (arith, c.loss-conductor.ensures.small)) in
    let sheath = as_it_is c.loss-sheath.result (omega (arith, c.loss-sheath.ensures.small)) in
    let armour = as_it_is c.loss-armour.result (omega (arith, c.loss-armour.ensures.small)) in
    let dielectric = as_it_is c.dielectric_loss-dielectric.result (omega (arith, c.dielectric_loss-dielectric.ensures.small)) in
    let at_sheath = read_back c.cooler.result c.cooler.type_inv in
    let at_armour = read_back c.cooler-2.result c.cooler-2.type_inv in
    let at_surface = read_back c.cooler-3.result c.cooler-3.type_inv in
    cc
