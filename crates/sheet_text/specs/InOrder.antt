-- Pieces of text one after the other. Assumes nothing.
use Rattle.std.specs.Prelude.{List, [], ◌++◌, ℕ, zero, suc}

-- those of 0 to n - 1
unfoldable pub in_order : (ℕ → List ℕ) → ℕ → List ℕ
in_order piece zero = []
in_order piece (suc n) = in_order piece n ++ piece n
