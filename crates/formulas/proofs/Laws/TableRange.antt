-- No entry of the tables is above 1000, no coefficient above 450, and no ks or kp below 120: one test that antt computes over each
-- whole table. A conductor's metal is one of the table's.
-- Assumes nothing.
use Rattle.std.specs.Prelude.{◌≡◌, refl, Bool, true, false, cond, ◌&&◌, List, ℕ, ◌≤◌, leb, length}
use Rattle.std.proofs.Common.{arith, leb-true, le-leb}
use Rattle.bools.proofs.Laws.Tests.{both}
use Rattle.formulas.specs.Laws.Ranges.{In}
use Rattle.formulas.specs.Laws.TableRule.{every_row}
use Rattle.formulas.proofs.Laws.TableRule.{at_code, at_any_code}
use Rattle.formulas.specs.Tables.{ks_table, kp_table, metal_table, entry, ks, kp, coefficient, conductor_metal}

-- a number outside the codes has 0, or the first entry
entry_most : (most : ℕ) (table : List ℕ) → every_row (λ code n. leb n most) table ≡ true → (code : ℕ) → entry table code ≤ most
entry_most most table test code = leb-true _ most (at_any_code (λ n. leb n most) table 0 test (le-leb 0 most (omega arith)) code)

pub ks_most : (code : ℕ) → ks code ≤ 1000
ks_most = entry_most 1000 ks_table refl

pub kp_most : (code : ℕ) → kp code ≤ 1000
kp_most = entry_most 1000 kp_table refl

pub coefficient_most : (metal : ℕ) → coefficient metal ≤ 450
coefficient_most = entry_most 450 metal_table refl

entry_range :
    (least most : ℕ) (table : List ℕ) → every_row (λ code n. leb least n && leb n most) table ≡ true → {n code : ℕ} → length table ≡ n →
    In 1 n code → In least most (entry table code)
entry_range least most table test size within =
    let parts = both _ _ (at_code (λ code n. leb least n && leb n most) table 0 test size within) in
    record { least = leb-true least _ parts.0; most = leb-true _ most parts.1 }

pub ks_range : {code : ℕ} → In 1 8 code → In 120 1000 (ks code)
ks_range = entry_range 120 1000 ks_table refl refl

pub kp_range : {code : ℕ} → In 1 8 code → In 120 1000 (kp code)
kp_range = entry_range 120 1000 kp_table refl refl

pub conductor_metal_range : (code : ℕ) → (1 ≤ conductor_metal code) × (conductor_metal code ≤ 6)
unfolding conductor_metal
conductor_metal_range code = go (leb code 3)
  where
    go : (copper : Bool) → (1 ≤ cond copper 3 2) × (cond copper 3 2 ≤ 6)
    go true = omega arith
    go false = omega arith
