-- Cases appended one after another to a fresh book. Assumes nothing.
use Rattle.std.specs.Prelude.{Bool, true, cond, ◌&&◌, List, [], ◌∷◌, ℕ, eqb, length}
use Rattle.book_laws.specs.Bytes.{below}
use Rattle.book_laws.specs.Layout.{Layout}
use Rattle.book_laws.specs.Start.{Written, start_in}
use Rattle.book_laws.specs.Append.{append_in}

-- whether each is a case: as many words of 32 bits as the layout stores
unfoldable pub all_cases : Layout → List (List ℕ) → Bool
all_cases l [] = true
all_cases l (x ∷ xs) = (eqb (length x) l.inputs && below 4294967296 x) && all_cases l xs

-- after a refusal nothing more is appended
unfoldable pub append_all : Layout → Written → List (List ℕ) → Written
append_all l w [] = w
append_all l w (x ∷ xs) = append_all l (cond (eqb w.number 0) (append_in l w.bytes w.used x) w) xs

-- a fresh book after a note of a given length, in the buffer b, with cases appended to it
unfoldable pub build_in : Layout → List ℕ → ℕ → List (List ℕ) → Written
build_in l b note xs = append_all l (start_in l b note) xs
