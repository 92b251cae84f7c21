-- A rule of a table at its codes, from one test that antt computes over the whole table. It holds of rows of any type, so that the tables
-- of the definitions and those of the code have their rules by the same law. Assumes nothing.
use Rattle.std.specs.Prelude.{Bool, true, ◌&&◌, List, [], ◌∷◌, ℕ, suc}

-- the test passes at each row of a table with its code, which counts from 1
abbrev pub every_row : {A : Type 0} → (ℕ → A → Bool) → List A → Bool
every_row passes [] = true
every_row passes (row ∷ rows) = passes 1 row && every_row (λ code. passes (suc code)) rows
