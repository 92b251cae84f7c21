-- A rule of a table at its codes, from one test that antt computes over the whole table. It holds of rows of any type, so that the tables
-- of the definitions and those of the code have their rules by the same law. Assumes nothing.
use Rattle.std.specs.Prelude.{Bool, true, List, [], ◌∷◌, ◌≡◌, ℕ, zero, suc, ◌-◌, ◌≤◌, get_or, length}
use Rattle.std.proofs.Common.{subst, arith}
use Rattle.bools.proofs.Laws.Tests.{both}
use Rattle.formulas.specs.Laws.Ranges.{In}
use Rattle.formulas.specs.Laws.TableRule.{every_row}

-- the code of place i is suc i; beyond the table the test must pass at what stands for a missing row
at_place :
    {A : Type 0} (passes : ℕ → A → Bool) (rows : List A) (missing : A) → every_row passes rows ≡ true → (i : ℕ) →
    (length rows ≤ i → passes (suc i) missing ≡ true) → passes (suc i) (get_or rows i missing) ≡ true
at_place passes [] missing test i beyond = beyond (omega arith)
at_place passes (row ∷ rows) missing test zero beyond = (both (passes 1 row) (every_row (λ code. passes (suc code)) rows) test).0
at_place passes (row ∷ rows) missing test (suc i) beyond =
    at_place (λ code. passes (suc code)) rows missing (both (passes 1 row) (every_row (λ code. passes (suc code)) rows) test).1 i
    (λ past. beyond (omega (arith, past)))

-- at each code of a table of n rows
pub at_code :
    {A : Type 0} (passes : ℕ → A → Bool) (rows : List A) (missing : A) → every_row passes rows ≡ true → {n : ℕ} → length rows ≡ n →
    {code : ℕ} → In 1 n code → passes code (get_or rows (code - 1) missing) ≡ true
at_code passes rows missing test size {code} within =
    let code_is : suc (code - 1) ≡ code = omega (arith, within.least) in
    let no_row_missing : length rows ≤ code - 1 → ⊥ = λ past. omega (arith, past, size, within.least, within.most) in
    subst (λ m. passes m (get_or rows (code - 1) missing) ≡ true) code_is
    (at_place passes rows missing test (code - 1) (λ past. absurd (no_row_missing past)))

-- a test that does not ask for the code, at every number, whether the table has it or not
pub at_any_code :
    {A : Type 0} (passes : A → Bool) (rows : List A) (missing : A) → every_row (λ code. passes) rows ≡ true → passes missing ≡ true →
    (code : ℕ) → passes (get_or rows (code - 1) missing) ≡ true
at_any_code passes rows missing test beyond code = at_place (λ code. passes) rows missing test (code - 1) (λ past. beyond)
