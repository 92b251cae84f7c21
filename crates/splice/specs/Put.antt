-- A part written into a list: what each function that writes ensures. Assumes nothing.
use Rattle.std.specs.Prelude.{List, ◌≡◌, ℕ, ◌+◌, ◌≤◌, length}
use Rattle.splice.specs.Splice.{splice}

-- vs stands in l from `at` on, which makes l to m, and r is the place after it
pub record Put (l : List ℕ) (at : ℕ) (vs m : List ℕ) (r : ℕ) : Type 0 where
  pub place_is : r ≡ at + length vs
  pub list_is : m ≡ splice l at vs

-- the same, and the place after it is at most `limit`, so that what is written next has room
pub record PutWithin (l : List ℕ) (at : ℕ) (vs m : List ℕ) (r limit : ℕ) : Type 0 where
  pub put : Put l at vs m r
  pub within : r ≤ limit
