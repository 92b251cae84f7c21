-- The answer to a case by its refusals: it is refused by the first that is given, in the order of the list, and else rated by the stages.
-- So what `rate` answers can be read off the list of refusals. Assumes nothing.
use Rattle.std.specs.Prelude.{◌≡◌, refl, cond, List, [], ◌∷◌, map, ℕ, eqb}
use Rattle.std.proofs.Common.{ap, sym, ◌∙◌}
use Rattle.bools.specs.First.{Refusal, or_refused}
use Rattle.bools.proofs.Laws.First.{or_refused_append, by_number}
use Rattle.rating.specs.FieldRefusals.{field_refusals, field_refusal}
use Rattle.rating.specs.Rate.{refused, rated, loaded, judged, rate_of, rate_of_is}
use Rattle.rating.specs.StageRefusals.{stage_refusals}
use Rattle.rating.specs.Refusals.{refusals_of}

-- the number of the answer, by what the answer is for the proofs of this crate
pub number :
    (x : List ℕ) {n : ℕ} → (cond (eqb (field_refusal x) 0) (judged x) (refused (field_refusal x))).number ≡ n →
    (rate_of x).number ≡ n
number x e = ap (λ a. a.number) (rate_of_is x) ∙ e

pub by_refusals : (x : List ℕ) → rate_of x ≡ or_refused refused (refusals_of x) (rated x)
unfolding or_refused refusals_of field_refusals stage_refusals judged loaded
by_refusals x =
    rate_of_is x
    ∙ by_number refused (field_refusals x) (judged x) refl
    ∙ sym (or_refused_append refused (field_refusals x) (stage_refusals x) (rated x))

-- the numbers of the refusals in the order in which they are tried: no case of an arrangement is given both 7 and 33, and so none shows
-- which of the two is the earlier
pub listed :
    (x : List ℕ) →
    map (λ (r : Refusal). r.number) (refusals_of x)
    ≡ 1 ∷ 2 ∷ 3 ∷ 4 ∷ 5 ∷ 6 ∷ 31 ∷ 32 ∷ 7 ∷ 33 ∷ 8 ∷ 9 ∷ 10 ∷ 11 ∷ []
unfolding refusals_of field_refusals stage_refusals
listed x = refl
