-- What `earliest` is: it passes where it is below n, none before it does, and it is the only such number. Assumes nothing.
use Rattle.std.specs.Prelude.{Bool, true, false, cond, ◌||◌, ◌≡◌, refl, ℕ, zero, suc, ◌<◌, eqb}
use Rattle.std.proofs.Common.{arith}
use Rattle.bools.specs.Earliest.{earliest}
use Rattle.bools.proofs.Laws.Tests.{by_outcome}

-- where 1, 2 and 4 pass, and where none does
some_pass : earliest (λ i. eqb i 1 || eqb i 2 || eqb i 4) 5 ≡ 1
unfolding earliest
some_pass = refl

none_passes : earliest (λ i. false) 5 ≡ 5
unfolding earliest
none_passes = refl

-- what holds of 0 where it passes, and of the next number else, holds of the earliest
by_first :
    (P : ℕ → Type 0) (passes : ℕ → Bool) (n : ℕ) → (passes zero ≡ true → P zero) →
    (passes zero ≡ false → P (suc (earliest (λ i. passes (suc i)) n))) → P (earliest passes (suc n))
unfolding earliest
by_first P passes n of_zero of-next =
    by_outcome (λ t. P (cond t zero (suc (earliest (λ i. passes (suc i)) n)))) (passes zero) of_zero of-next

pub earliest_passes : (passes : ℕ → Bool) (n : ℕ) → earliest passes n < n → passes (earliest passes n) ≡ true
earliest_passes passes zero = λ h. absurd (omega (arith, h))
earliest_passes passes (suc n) =
    by_first (λ k. k < suc n → passes k ≡ true) passes n (λ first h. first)
    (λ later h. earliest_passes (λ i. passes (suc i)) n (omega (arith, h)))

pub none_before : (passes : ℕ → Bool) (n i : ℕ) → i < earliest passes n → passes i ≡ false
unfolding earliest
none_before passes zero i = λ h. absurd (omega (arith, h))
none_before passes (suc n) zero =
    by_first (λ k. zero < k → passes zero ≡ false) passes n (λ first h. absurd (omega (arith, h))) (λ later h. later)
none_before passes (suc n) (suc i) =
    by_first (λ k. suc i < k → passes (suc i) ≡ false) passes n (λ first h. absurd (omega (arith, h)))
    (λ later h. none_before (λ j. passes (suc j)) n i (omega (arith, h)))

pub earliest_only :
    (passes : ℕ → Bool) (n k : ℕ) → k < n → passes k ≡ true → ((i : ℕ) → i < k → passes i ≡ false) → earliest passes n ≡ k
unfolding earliest
earliest_only passes zero k within at-k before = absurd (omega (arith, within))
earliest_only passes (suc n) zero within at-k before = simp at-k
earliest_only passes (suc n) (suc k) within at-k before =
    let later = earliest_only (λ i. passes (suc i)) n k (omega (arith, within)) at-k (λ i h. before (suc i) (omega (arith, h))) in
    simp (before zero (omega arith), later)
