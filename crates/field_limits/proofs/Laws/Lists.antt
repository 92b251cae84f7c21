-- Tests over a list of numbers: that a test fails at one of them, and that two lists with the same numbers pass alike. Assumes nothing.
use Rattle.std.specs.Prelude.{◌≡◌, refl, Bool, true, false, not, ◌&&◌, ◌||◌, List, [], ◌∷◌, ℕ, eqb}
use Rattle.std.proofs.Common.{ap, sym, ◌∙◌, eqb-true, inl, inr}
use Rattle.std.specs.List.{list_all, list_any}
use Rattle.std.proofs.lemmas.Bool.{false≢true, and_from, or_cases}
use Rattle.bools.proofs.Laws.Tests.{both}

-- not every number passes where one does not
one_fails : (test : ℕ → Bool) (is : List ℕ) → not (list_all test is) ≡ list_any (λ i. not (test i)) is
one_fails test [] = refl
one_fails test (i ∷ is) = at_first (test i) ∙ ap (λ t. not (test i) || t) (one_fails test is)
  where
    at_first : (first : Bool) → not (first && list_all test is) ≡ not first || not (list_all test is)
    at_first true = refl
    at_first false = refl

-- the number stands in the list
abbrev pub among : List ℕ → ℕ → Bool
among is i = list_any (eqb i) is

-- every number of the second list stands in the first
abbrev pub holds : List ℕ → List ℕ → Bool
holds is js = list_all (among is) js

passes_there : (test : ℕ → Bool) (is : List ℕ) (i : ℕ) → list_all test is ≡ true → among is i ≡ true → test i ≡ true
passes_there test [] i all there = absurd (false≢true there)
passes_there test (j ∷ js) i all there =
    let parts = both (test j) (list_all test js) all in
    elim (or_cases (eqb i j) (among js i) there) [
      | inl same ↦ ap test (eqb-true i j same) ∙ parts.0
      | inr later ↦ passes_there test js i parts.1 later
    ]

passed_on : (test : ℕ → Bool) (is js : List ℕ) → holds is js ≡ true → list_all test is ≡ true → list_all test js ≡ true
passed_on test is [] held all = refl
passed_on test is (j ∷ js) held all =
    let parts = both (among is j) (holds is js) held in
    and_from (test j) (list_all test js) (passes_there test is j all parts.0) (passed_on test is js parts.1 all)

same_outcome : (a b : Bool) → (a ≡ true → b ≡ true) → (b ≡ true → a ≡ true) → a ≡ b
same_outcome true true there back = refl
same_outcome true false there back = sym (there refl)
same_outcome false true there back = back refl
same_outcome false false there back = refl

-- lists with the same numbers, in whatever order
same_numbers : (test : ℕ → Bool) (is js : List ℕ) → holds is js ≡ true → holds js is ≡ true → list_all test is ≡ list_all test js
same_numbers test is js there back =
    same_outcome (list_all test is) (list_all test js) (passed_on test is js there) (passed_on test js is back)

-- so one of the first does not pass where one of the second does not
pub fails_alike :
    (test : ℕ → Bool) (is js : List ℕ) → holds is js ≡ true → holds js is ≡ true →
    not (list_all test is) ≡ list_any (λ i. not (test i)) js
fails_alike test is js there back = ap not (same_numbers test is js there back) ∙ one_fails test js
