-- Where a case has an arrangement, what is known of the one holds of the other. Assumes nothing.
use Rattle.std.proofs.Common.{◌≡◌, ◌∙◌, subst, ap, cond, true, List, ℕ}
use Rattle.std.proofs.Math.Path.{subst⁻¹}
use Rattle.rating.specs.declared.arrangement.Rules.{Rules}
use Rattle.rating.specs.declared.arrangement.Losses.{Losses}
use Rattle.rating.specs.declared.judge.FitCase.{FitCase}
use Rattle.rating.specs.Arrangement.{Arrangement}
use Rattle.rating.specs.Arrangements.{own}
use Rattle.rating.specs.Current.{of_alternating}
use Rattle.rating.specs.Values.{Rs, B}
use Rattle.rating.specs.Laws.Fit.{Fit}
use Rattle.rating.specs.Laws.Steps.{Asks, Loses}

module _ {a : Arrangement} {x : List ℕ} (own_is : own x ≡ a) where
  pub asks : {r : Rules} → Asks a x r → Asks (own x) x r
  asks {r} = subst⁻¹ (λ a. Asks a x r) own_is

  pub fits : Fit (own x) x → Fit a x
  fits = subst (λ a. Fit a x) own_is

  pub loses : {l : Losses} → Loses a x l → Loses (own x) x l
  loses {l} = subst⁻¹ (λ a. Loses a x l) own_is

-- where its current alternates, B and Rs of a case that passed 8 and 9 are not 0 but those of the stages
module _ (p : FitCase) {a : Arrangement} (own_is : own p.case.x ≡ a) (ac : a.alternates ≡ true) where
  shown : (v : ℕ) → of_alternating p.case.x v ≡ v
  shown v = ap (λ a. cond a.alternates v 0) own_is ∙ ap (λ t. cond t v 0) ac

  pub B_is : p.b ≡ B p.case.x
  B_is = p.b_is ∙ shown _

  pub Rs_is : p.rs ≡ Rs p.case.x
  Rs_is = p.rs_is ∙ shown _
