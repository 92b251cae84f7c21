-- `book_bytes::record::agrees` meets its contract: the two fields are compared with those of the case or, where the layout does not allow
-- its arrangement, with those of refusal 1. Assumes nothing.
use Rattle.std.proofs.Common.{Bool, List, [], ap, ap₂, cond, eq-eqb, eqb, ne_eqb, refl, replicate, suc, sym, zero, ℕ}
use Rattle.std.proofs.Common.{◌&&◌, ◌++◌, ◌∙◌, ◌∷◌, ◌≡◌}
use Rattle.fields.specs.Fields as Fields
use Rattle.book_laws.specs.Layout as Spec
use Rattle.book_laws.specs.Layout.{missing, refused_by_1}
use Rattle.book_laws.specs.Record.{agrees, answer_at, case_at, rating_at}
use Rattle.rating.specs.Rate.{Answer, rate_of}
use Rattle.book_bytes.specs.declared.layout.Layout.{Layout}
use Rattle.book_bytes.specs.declared.record.Record as Code
use Rattle.book_bytes.specs.Layout.{layout_as}
use Rattle.book_bytes.proofs.record.agrees.Goals as goal

-- the arrangement of a case is that of its stored inputs
arrangement_stored : (x : List ℕ) (n : ℕ) → Fields.arrangement x ≡ Fields.arrangement (x ++ replicate n 0)
arrangement_stored [] zero = refl
arrangement_stored [] (suc n) = refl
arrangement_stored (w ∷ x) n = refl

-- what a record says
module _ (code : Layout) (b : List ℕ) (at : ℕ) (said : Code.Record) where
  abbrev l : Spec.Layout
  l = layout_as code

  -- what its case gets, by whether the layout allows its arrangement
  rule_is :
      (allowed : Bool) {outcome : Bool} → said.case ≡ case_at l b at ++ missing l →
      ((x : List ℕ) → Fields.arrangement x ≡ Fields.arrangement said.case →
      l.rule x ≡ cond allowed (rate_of (x ++ missing l)) refused_by_1) →
      allowed ≡ outcome → l.rule (case_at l b at) ≡ cond outcome (rate_of said.case) refused_by_1
  rule_is allowed of_case by_arrangement is =
      by_arrangement (case_at l b at) (arrangement_stored (case_at l b at) _ ∙ ap Fields.arrangement (sym of_case))
      ∙ ap₂ (λ (t : Bool) (y : List ℕ). cond t (rate_of y) refused_by_1) is (sym of_case)

  -- a is what it gets
  module _ (answer_is : said.answer ≡ answer_at l b at) (rating_is : said.rating ≡ rating_at l b at) (a : Answer)
      (gets : l.rule (case_at l b at) ≡ a) {answer rating : ℕ} (answer_gets : answer ≡ a.number) (rating_gets : rating ≡ a.rating) where
    compared : eqb said.answer answer && eqb said.rating rating ≡ agrees l b at
    unfolding agrees
    compared =
        ap₂ ◌&&◌ (ap₂ eqb answer_is (answer_gets ∙ ap (λ (r : Answer). r.number) (sym gets)))
        (ap₂ eqb rating_is (rating_gets ∙ ap (λ (r : Answer). r.rating) (sym gets)))

    same_answer : said.answer ≡ answer → eqb said.rating rating ≡ agrees l b at
    same_answer same = sym (ap (λ (s : Bool). s && eqb said.rating rating) (eq-eqb _ _ same)) ∙ compared

    other_answer : (said.answer ≡ answer → ⊥) → eqb said.answer answer ≡ agrees l b at
    other_answer other =
        let differs = ne_eqb said.answer answer other in
        differs ∙ sym (ap (λ (s : Bool). s && eqb said.rating rating) differs) ∙ compared

pub returns-then-record-from : goal.returns-then-record-from
returns-then-record-from c =
    let said = c.of_bytes-record in
    let gets = rule_is _ _ _ said.result _ said.ensures.case c.allows.ensures c.if-not-allows.true in
    same_answer _ _ _ said.result said.ensures.answer said.ensures.rating refused_by_1 gets c.from.ensures refl c.if-record-from.true

pub returns-else-record-from : goal.returns-else-record-from
returns-else-record-from c =
    let said = c.of_bytes-record in
    let gets = rule_is _ _ _ said.result _ said.ensures.case c.allows.ensures c.if-not-allows.true in
    let rating_gets : 0 ≡ refused_by_1.rating = refl in
    other_answer _ _ _ said.result said.ensures.answer said.ensures.rating refused_by_1 gets c.from.ensures rating_gets
    c.if-record-from.false

pub returns-then-record-rated : goal.returns-then-record-rated
returns-then-record-rated c =
    let said = c.of_bytes-record in
    let rated = c.of_case-rated in
    let gets = rule_is _ _ _ said.result _ said.ensures.case c.allows.ensures c.if-not-allows.false in
    same_answer _ _ _ said.result said.ensures.answer said.ensures.rating (rate_of said.result.case) gets rated.ensures.answer
    rated.ensures.rating c.if-record-rated.true

pub returns-else-record-rated : goal.returns-else-record-rated
returns-else-record-rated c =
    let said = c.of_bytes-record in
    let rated = c.of_case-rated in
    let gets = rule_is _ _ _ said.result _ said.ensures.case c.allows.ensures c.if-not-allows.false in
    other_answer _ _ _ said.result said.ensures.answer said.ensures.rating (rate_of said.result.case) gets rated.ensures.answer
    rated.ensures.rating c.if-record-rated.false
