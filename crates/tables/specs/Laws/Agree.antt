-- That a row of a table is the definition's for its code, as a test which antt computes over the whole table. Assumes nothing.
use Rattle.std.proofs.Common.{eqb-true}
use Rattle.std.specs.Prelude.{Bool, true, ◌&&◌, ◌≡◌, ℕ, eqb}
use Rattle.bools.proofs.Laws.Tests.{both}
use Rattle.formulas.specs.Tables.{ks, kp, coefficient}
use Rattle.tables.specs.declared.Factors.{Factors}

abbrev pub factors_agree : ℕ → Factors → Bool
factors_agree code row = eqb row.ks (ks code) && eqb row.kp (kp code)

abbrev pub coefficient_agrees : ℕ → ℕ → Bool
coefficient_agrees metal α = eqb α (coefficient metal)

-- the row has ks and kp of the code
pub record FactorsOf (code : ℕ) (row : Factors) : Type 0 where
  pub ks_is : row.ks ≡ ks code
  pub kp_is : row.kp ≡ kp code

pub agreeing_factors : {code : ℕ} {row : Factors} → factors_agree code row ≡ true → FactorsOf code row
agreeing_factors agree =
    let parts = both _ _ agree in
    record { ks_is = eqb-true _ _ parts.0; kp_is = eqb-true _ _ parts.1 }
