-- The bytes that a stream of lines still awaits, and what a step of a loop over it does: it gives the first of their lines, and awaits
-- the bytes of the others. Assumes nothing.
use Rattle.std.specs.Prelude.{Some, ◌≡◌, ℕ, ◌<◌, ◌⊎◌, Option, List, [], ◌++◌, length}
use Rattle.std.specs.Iterator.{YieldsFirstBy}
use Rattle.arrayvec.specs.ArrayVec.{ArrayVec}
use Rattle.input.specs.declared.Lines.{Lines}
use Rattle.input.specs.Lines.{kept_lines, said_lines}
use Rattle.text.specs.declared.line.Said.{Said}
use Rattle.text.specs.Gather.{piece}

module _ {S : Type 0} (remaining : S → Option (List ℕ)) where
  -- the bytes xs are still to come: the chunk's, and then those of the source. A read for each byte of the source and one more is left,
  -- which suffices, since each read before the end gives a byte at least
  pub record Awaits (l : Lines S) (xs : List ℕ) : Type 0 where
    pub rest : List ℕ
    pub known : remaining l.source ≡ Some rest
    pub bytes : xs ≡ piece l.at l.end l.chunk ++ rest
    pub reads : (xs ≡ []) ⊎ (length rest < l.reads)

  -- a step from `from` that gave r and left `to`: of the items of the bytes that `from` awaits r is the first, as `view` sees it, and those
  -- of the bytes that `to` awaits are the others; or there are none
  abbrev pub Next : {A B : Type 0} → (A → B) → (List ℕ → List B) → Lines S → Option A → Lines S → Type 0
  Next view items from r to =
      (xs : List ℕ) → Awaits from xs → (ys : List ℕ) × Awaits to ys × YieldsFirstBy view items xs r ys

  -- the next line
  abbrev pub NextLine : Lines S → Option (ArrayVec ℕ) → Lines S → Type 0
  NextLine = Next (λ line. line.items) kept_lines

  -- what the next line says
  abbrev pub NextSaid : Lines S → Option Said → Lines S → Type 0
  NextSaid = Next (λ said. said) said_lines
