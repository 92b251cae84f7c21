-- A list with a part of it replaced. Assumes nothing.
use Rattle.std.specs.Prelude.{List, ◌++◌, ℕ, ◌+◌, length, take, drop}

-- l, with vs in place of its elements from index `at` on, as many as vs has
unfoldable pub splice : List ℕ → ℕ → List ℕ → List ℕ
splice l at vs = take at l ++ vs ++ drop (at + length vs) l
