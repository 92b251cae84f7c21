-- The answer to a case that a step refused: by an arrangement that is none, or by a test of its fields. Assumes nothing.
use Rattle.std.proofs.Common.{◌≡◌, ◌∙◌, List, ℕ, ap, cond, eqb, false, refl}
use Rattle.rating.specs.declared.refusal.Refusal.{Refusal}
use Rattle.rating.specs.declared.refusal.Refusal as Code
use Rattle.bools.specs.First.{or_refused}
use Rattle.rating.specs.Refusal.{number_of}
use Rattle.rating.specs.Arrangements.{no_arrangement, own}
use Rattle.rating.specs.FieldRefusals.{field_refusals, field_refusal}
use Rattle.rating.specs.Rate.{refused, judged, rate_of, rate_of_is}

numbered : (refusal : Refusal) → eqb (number_of refusal) 0 ≡ false
numbered Code.TheVariants.Arrangement = refl
numbered Code.TheVariants.Conductor = refl
numbered Code.TheVariants.Limit = refl
numbered Code.TheVariants.Stray = refl
numbered Code.TheVariants.Geometry = refl
numbered Code.TheVariants.Heat = refl
numbered Code.TheVariants.Isotherm = refl
numbered Code.TheVariants.Sun = refl
numbered Code.TheVariants.Metal = refl
numbered Code.TheVariants.DirectVoltage = refl
numbered Code.TheVariants.Skin = refl
numbered Code.TheVariants.Eddy = refl
numbered Code.TheVariants.Dielectric = refl
numbered Code.TheVariants.Current = refl

pub fields_refused : (x : List ℕ) (refusal : Refusal) → field_refusal x ≡ number_of refusal → rate_of x ≡ refused (number_of refusal)
fields_refused x refusal given =
    rate_of_is x ∙ (λ i. cond (eqb (given i) 0) (judged x) (refused (given i))) ∙ simp (numbered refusal)

pub none_has : (x : List ℕ) → own x ≡ no_arrangement → rate_of x ≡ refused 1
unfolding or_refused no_arrangement field_refusals
none_has x none = fields_refused x Code.TheVariants.Arrangement (simp (ap (λ a. a.known) none))
