-- What an answer says of the refusals that were tried before it: it is the answer where none is given, and one of them refused it
-- otherwise. Assumes nothing.
use Rattle.std.specs.Prelude.{Bool, true, false, cond, List, [], ◌∷◌, ◌++◌, ◌≡◌, refl, ℕ, ◌≤◌, ltb, leb, eqb}
use Rattle.std.specs.List.{list_all}
use Rattle.std.proofs.Common.{ap, arith, leb-true, ltb-true, ne_eqb}
use Rattle.bools.specs.First.{Refusal, or_refused}
use Rattle.bools.proofs.Laws.Tests.{both, either}

-- refusals that are tried one after another
pub or_refused_append :
    {A : Type 0} (refuse : ℕ → A) (rs qs : List Refusal) (answer : A) →
    or_refused refuse (rs ++ qs) answer ≡ or_refused refuse rs (or_refused refuse qs answer)
unfolding or_refused
or_refused_append refuse [] qs answer = refl
or_refused_append refuse (r ∷ rs) qs answer = ap (cond r.given (refuse r.number)) (or_refused_append refuse rs qs answer)

-- what holds of every refusal and of the answer holds of what is answered
pub or_refused_each :
    {A : Type 0} (P : A → Type 0) (refuse : ℕ → A) (rs : List Refusal) (answer : A) → ((n : ℕ) → P (refuse n)) → P answer →
    P (or_refused refuse rs answer)
unfolding or_refused
or_refused_each P refuse [] answer of_refusal of-answer = of-answer
or_refused_each {A} P refuse (r ∷ rs) answer of_refusal of-answer =
    by_test r.given (of_refusal r.number) (or_refused_each P refuse rs answer of_refusal of-answer)
  where
    by_test : (given : Bool) {a b : A} → P a → P b → P (cond given a b)
    by_test true of-a of-b = of-a
    by_test false of-a of-b = of-b

-- Refusals given by their numbers alone, none of which is 0: the first that is given, or 0.

pub number_most :
    (most : ℕ) (rs : List Refusal) → list_all (λ r. leb r.number most) rs ≡ true → or_refused (λ n. n) rs 0 ≤ most
unfolding or_refused
number_most most [] all = omega arith
number_most most (r ∷ rs) all =
    let p = both _ _ all in
    either (λ n. n ≤ most) r.given (leb-true r.number most p.0) (number_most most rs p.1)

-- what is refused by that number is refused by the list
pub by_number :
    {A : Type 0} (refuse : ℕ → A) (rs : List Refusal) (answer : A) → list_all (λ r. ltb 0 r.number) rs ≡ true →
    let n = or_refused (λ n. n) rs 0 in
    cond (eqb n 0) answer (refuse n) ≡ or_refused refuse rs answer
unfolding or_refused
by_number refuse [] answer all = refl
by_number {A} refuse (r ∷ rs) answer all = by_test r.given _ (by_number refuse rs answer (both _ _ all).1)
  where
    numbered : eqb r.number 0 ≡ false
    numbered = ne_eqb r.number 0 (λ none. omega (arith, none, ltb-true 0 r.number (both _ _ all).0))

    by_test :
        (given : Bool) (later : ℕ) {rest : A} → cond (eqb later 0) answer (refuse later) ≡ rest →
        cond (eqb (cond given r.number later) 0) answer (refuse (cond given r.number later)) ≡ cond given (refuse r.number) rest
    by_test true later e = ap (λ none. cond none answer (refuse r.number)) numbered
    by_test false later e = e
