-- Where the current is direct neither 8 nor 9 is tried, R is R', and what only an alternating current has is 0.
use Rattle.std.proofs.Common.{◌≡◌, ◌∙◌, refl, List, ℕ, false}
use Rattle.bools.proofs.Laws.Tests.{by_outcome, other_outcome}
use Rattle.fields.specs.Fields as Field
use Rattle.rating.specs.Arrangements.{own}
use Rattle.rating.specs.Current.{R_of, Wd_of}
use Rattle.rating.specs.FieldRefusals.{field_refusal}
use Rattle.rating.specs.Rate.{loaded, judged, rate_of}
use Rattle.rating.proofs.Judged.{judged_next}
use Rattle.rating.proofs.Laws.Arrangements.{lawful}
use Rattle.rating.proofs.case.SoundCase.direct.Goals as goal

-- an arrangement whose current is direct has no eddies
no_eddies : (x : List ℕ) → (own x).alternates ≡ false → (own x).eddies ≡ false
no_eddies x direct =
    by_outcome (λ tried. tried ≡ false) (own x).eddies
    (λ tried. other_outcome _ direct ((lawful (Field.arrangement x)).eddies tried))
    (λ untried. refl)

answer : (x : List ℕ) → field_refusal x ≡ 0 → (own x).alternates ≡ false → rate_of x ≡ loaded x
unfolding judged
answer x none_given direct = judged_next x none_given ∙ simp (direct, no_eddies x direct)

pub invariant_of-result : goal.invariant_of-result
unfolding R_of Wd_of
invariant_of-result c =
    let x = c.args.self.x in
    let fine = c.args.self.sound in
    let direct = c.requires.direct in
    record {
      fit =
          record {
            sound = fine;
            known = fine.known;
            limits = fine.limits;
            geometry = fine.geometry;
            alternating = fine.alternating;
            skin = other_outcome _ direct;
            proximity = other_outcome _ direct;
            eddies = other_outcome _ (no_eddies x direct);
          };
      answer = answer x c.args.self.none_given direct;
      rc_is = c.requires.rc_is;
      b_is = simp direct;
      rs_is = simp direct;
      ys_is = simp direct;
      yp_is = simp direct;
      r_is = c.requires.rc_is ∙ simp direct;
      wd_is = simp direct;
    }
