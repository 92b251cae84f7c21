-- `stages::logarithm::log` meets its contract: its parts are those of Logs.antt, and their sum is small. Assumes nothing.
use Rattle.std.proofs.Common.{ap₂, arith, sym, ◌*◌, ◌+◌, ◌∙◌, ◌≡◌, ℕ}
use Rattle.stages.specs.Laws.Ends.{LogLaws}
use Rattle.stages.proofs.Logs.{Parts, first_most, parts}
use Rattle.stages.proofs.logarithm.log.Goals as goal
use Rattle.stages.proofs.logarithm.log.Goals.{After-REMAINDER}

-- an end is made of its parts
module _
    {round log : ℕ → ℕ → ℕ} {remainder ln2 fixed a b terms count : ℕ} (laws : LogLaws round log remainder ln2 fixed)
    (known : Parts round a b terms count) where
  sum_is : {extra factor times : ℕ} → extra ≡ remainder → factor ≡ ln2 → times ≡ count → terms + extra + factor * times ≡ log a b
  sum_is extra-is factor-is times-is =
      ap₂ (λ head tail. head + tail) (ap₂ ◌+◌ known.terms_are extra-is) (ap₂ ◌*◌ factor-is (times-is ∙ known.count_is))
      ∙ sym (laws.log_is a b)

pub thirteen_terms-terms-requires : goal.thirteen_terms-terms-requires
thirteen_terms-terms-requires g c = omega (arith, c.mul_div.ensures, first_most g.met.R.End.bounded c.requires c.reduce-z.ensures)

pub returns : goal.returns
returns g c =
    let known = parts g.met.R.End.bounded c.requires c.reduce-z.ensures c.mul_div.ensures c.thirteen_terms-terms.ensures in
    sum_is g.met.R.End.log_laws known c.REMAINDER.ensures c.LN2.ensures c.from.ensures

pub overflow_add-result : goal.overflow_add-result
overflow_add-result g c =
    let known = parts g.met.R.End.bounded c.requires c.reduce-z.ensures c.mul_div.ensures c.thirteen_terms-terms.ensures in
    omega (arith, known.terms_most, c.REMAINDER.ensures, g.met.R.End.log_laws.remainder_most)

pub overflow_add-result-2 : goal.overflow_add-result-2
overflow_add-result-2 g c =
    let pre = c.requires in
    omega (arith, returns g c, g.met.R.End.log_laws.log_most _ _ pre.octaves.b>0 pre.octaves.b_most pre.ratio_below)
