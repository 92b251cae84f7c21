-- `stages::rating::rating` is the definition: a quotient, and the root of it.
use Rattle.std.proofs.Common.{ap, arith, ◌∙◌}
use Rattle.exact.specs.Root.{root}
use Rattle.exact.proofs.Laws.Root.{root_is, root_only}
use Rattle.formulas.specs.Rating.{rating}
use Rattle.stages.proofs.Quotients.{quotient_down_fits}
use Rattle.stages.proofs.rating.rating.Goals as goal

pub returns : goal.returns
unfolding rating
returns c = let q = c.mul_div in
    root_only c.root.ensures (root_is q.result) ∙ ap root q.ensures

pub mul_div-requires : goal.mul_div-requires
mul_div-requires c = quotient_down_fits 400000000000000000 (omega arith) (omega arith) tt
