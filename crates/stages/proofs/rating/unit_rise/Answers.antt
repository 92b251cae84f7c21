-- `stages::rating::unit_rise` is the definition: the rises across T1, T2 and T3 with T4, added up.
use Rattle.std.proofs.Common.{ap₂, arith, lit<, mul-le-mul, ◌+◌, ◌*◌, ◌≤◌}
use Rattle.formulas.specs.Rating.{unit_rise}
use Rattle.stages.proofs.rating.unit_rise.Goals as goal
use Rattle.stages.proofs.rating.unit_rise.Goals.{Start}

pub rise-requires-3 : goal.rise-requires-3
rise-requires-3 c =
    let losses : c.args.r + c.args.s + c.args.w ≤ 1900000000000000 = omega (arith, c.requires) in
    let across : 1000 * c.args.t.t3 + c.args.t.t4 ≤ 110000000000 = omega (arith, c.requires.thermal) in
    record { unit>0 = lit< tt; product_most = mul-le-mul (mul-le-mul c.requires.n_most losses) across }

pub returns : goal.returns
unfolding unit_rise
returns c = ap₂ ◌+◌ (ap₂ ◌+◌ c.rise.ensures.rise_is c.rise-2.ensures.rise_is) c.rise-3.ensures.rise_is
