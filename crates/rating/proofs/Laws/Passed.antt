-- What a rated case says of each refusal: that it was not given; and its answer is that of the stages. Assumes nothing.
use Rattle.std.specs.Prelude.{◌≡◌, refl, Bool, true, false, cond, List, ℕ, eqb}
use Rattle.std.proofs.Common.{sym, ◌∙◌, ap, suc-ne-zero, eqb-true}
use Rattle.std.proofs.lemmas.Bool.{eqb-false}
use Rattle.bools.proofs.Laws.Tests.{passed}
use Rattle.rating.specs.FieldRefusals.{field_refusal}
use Rattle.rating.specs.StageRefusals.{skin_refused, eddy_refused, dielectric_refused, current_refused}
use Rattle.rating.specs.Rate.{Answer, refused, rated, loaded, judged, rate_of, rate_of_is}

-- no refusal of the fields was given, and the answer is what follows
fields_passed :
    (none_given : Bool) (n : ℕ) (rest : Answer) → eqb n 0 ≡ none_given → (cond none_given rest (refused n)).number ≡ 0 →
    (n ≡ 0) × (cond none_given rest (refused n) ≡ rest)
unfolding refused
fields_passed true n rest t e = (eqb-true n 0 t, refl)
fields_passed false n rest t e = absurd (eqb-false n 0 t e)

pub record Passed (x : List ℕ) : Type 0 where
  pub fields : field_refusal x ≡ 0
  pub skin : skin_refused x ≡ false
  pub eddies : eddy_refused x ≡ false
  pub dielectric : dielectric_refused x ≡ false
  pub current : current_refused x ≡ false
  pub answer : rate_of x ≡ rated x

pub all_passed : (x : List ℕ) → (rate_of x).number ≡ 0 → Passed x
unfolding judged loaded refused
all_passed x none_given =
    let number : Answer → ℕ = λ a. a.number in
    let from_tests = sym (ap number (rate_of_is x)) ∙ none_given in
    let fields = fields_passed (eqb (field_refusal x) 0) (field_refusal x) (judged x) refl from_tests in
    let after_fields = sym (ap number fields.1) ∙ from_tests in
    let skin = passed number (skin_refused x) _ _ (suc-ne-zero 7) after_fields in
    let after_skin = sym (ap number skin.1) ∙ after_fields in
    let eddies = passed number (eddy_refused x) _ _ (suc-ne-zero 8) after_skin in
    let after_eddies = sym (ap number eddies.1) ∙ after_skin in
    let dielectric = passed number (dielectric_refused x) _ _ (suc-ne-zero 9) after_eddies in
    let after_dielectric = sym (ap number dielectric.1) ∙ after_eddies in
    let current = passed number (current_refused x) _ _ (suc-ne-zero 10) after_dielectric in
    record {
      fields = fields.0;
      skin = skin.0;
      eddies = eddies.0;
      dielectric = dielectric.0;
      current = current.0;
      answer = rate_of_is x ∙ fields.1 ∙ skin.1 ∙ eddies.1 ∙ dielectric.1 ∙ current.1;
    }

pub rated_stages : (x : List ℕ) → (rate_of x).number ≡ 0 → rate_of x ≡ rated x
rated_stages x is-rated = (all_passed x is-rated).answer
