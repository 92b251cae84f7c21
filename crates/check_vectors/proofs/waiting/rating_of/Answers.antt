-- `check_vectors::waiting::rating_of` meets its contract: the rating stands in the answer to the case.
-- Assumes nothing.
use Rattle.std.proofs.Common.{◌≡◌, ◌⊎◌, inl, inr, ap, sym, ◌∙◌}
use Rattle.rating.specs.Rate.{Answer}
use Rattle.text.specs.declared.line.Said.{Said}
use Rattle.text.specs.declared.line.Said.TheVariants.{PassedOver, Unreadable}
use Rattle.check_vectors.specs.Waiting.{rating_said}
use Rattle.check_vectors.proofs.waiting.rating_of.Goals as goal

pub returns-in-Ok : goal.returns-in-Ok
unfolding rating_said
returns-in-Ok c = ap (λ (a : Answer). a.rating) c.in-Ok.ensures ∙ ap rating_said c.in-Case.ensures

pub returns-in-Err : goal.returns-in-Err
unfolding rating_said
returns-in-Err c = ap (λ (a : Answer). a.rating) c.in-Err.ensures ∙ ap rating_said c.in-Case.ensures

no_case : (s : Said) → (s ≡ PassedOver) ⊎ (s ≡ Unreadable) → 0 ≡ rating_said s
unfolding rating_said
no_case s (inl e) = sym (ap rating_said e)
no_case s (inr e) = sym (ap rating_said e)

pub returns-in-PassedOver : goal.returns-in-PassedOver
returns-in-PassedOver c = no_case _ c.in-PassedOver.is ∙ ap rating_said c.read_line.ensures
