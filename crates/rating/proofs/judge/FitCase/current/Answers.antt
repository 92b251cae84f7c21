-- `current` is the definition: refusal 10 leaves something of the rise, and E is large enough for the quotient to fit.
use Rattle.std.proofs.Common.{arith, ◌-◌, ◌∙◌}
use Rattle.formulas.specs.Dielectric.{current_rise}
use Rattle.formulas.specs.Rating.{rating}
use Rattle.rating.specs.Stage10.{N, current_of}
use Rattle.rating.proofs.Laws.Ranges.{permitted_range}
use Rattle.rating.proofs.Laws.Stage10.{E_range}
use Rattle.rating.proofs.judge.FitCase.current.Goals as goal

pub overflow_sub-permitted : goal.overflow_sub-permitted
overflow_sub-permitted c = omega (arith, c.requires.share)

pub rating-requires : goal.rating-requires
rating-requires c =
    let fit = c.args.self.now.fit in
    record {
      N_most = omega (arith, c.requires.permitted_is, permitted_range fit.sound);
      E_least = omega (arith, c.requires.e_is, E_range fit);
    }

pub returns : goal.returns
unfolding current_of N current_rise
returns c =
    let permitted = c.requires.permitted_is in
    let d0 = c.requires.d0_is in
    let e = c.requires.e_is in
    c.rating.ensures ∙ (λ i. rating (permitted i - d0 i) (e i))
