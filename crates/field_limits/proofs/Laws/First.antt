-- Fields 0 and 1, which refusals 1 and 2 judge: where the arrangement is one, field 0 is never marked, and field 1 just where refusal 2 is
-- given. Assumes nothing.
use Rattle.std.specs.Prelude.{◌≡◌, refl, true, false, not, ◌&&◌, ◌||◌, List, ℕ, eqb}
use Rattle.std.proofs.Common.{ap, sym, ◌∙◌}
use Rattle.std.proofs.Math.Bool.{and-false}
use Rattle.std.specs.List.{list_any}
use Rattle.fields.specs.Fields as Field
use Rattle.rating.specs.FieldRefusals.{conductor_refused}
use Rattle.rating.specs.Arrangements.{arrangement_of, own}
use Rattle.rating.proofs.Laws.Arrangements.{known_within}
use Rattle.field_limits.specs.Limits.{all, row}
use Rattle.field_limits.specs.Marked.{has, value, allowed, outside, unused, stray}
use Rattle.field_limits.proofs.Laws.Numbers.{at_each}

had_by_all : (k : ℕ) → (arrangement_of k).known ≡ true → list_any (λ j. eqb j k) all ≡ true
had_by_all = at_each (λ k. list_any (λ j. eqb j k) all ≡ true) refl refl refl refl refl refl refl

module _ (x : List ℕ) (known : (own x).known ≡ true) where
  pub outside_at_0 : outside x 0 ≡ false
  unfolding outside allowed value row
  outside_at_0 = ap (λ t. has x 0 && not t) (sym (known_within (Field.arrangement x)) ∙ known) ∙ and-false (has x 0)

  pub outside_at_1 : outside x 1 ≡ conductor_refused x
  unfolding outside has allowed value row conductor_refused
  outside_at_1 = ap (λ t. t && not (allowed x 1)) (had_by_all (Field.arrangement x) known)

  pub stray_at_0 : stray x 0 ≡ false
  unfolding stray unused has row
  stray_at_0 = ap (λ t. (not t || false) && not (eqb (Field.word x 0) 0)) (had_by_all (Field.arrangement x) known)

  pub stray_at_1 : stray x 1 ≡ false
  unfolding stray unused has row
  stray_at_1 = ap (λ t. (not t || false) && not (eqb (Field.word x 1) 0)) (had_by_all (Field.arrangement x) known)
