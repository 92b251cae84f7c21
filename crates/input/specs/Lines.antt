-- The lines of some bytes, and what each says. A line feed ends a line, or the end of the bytes after at least one. Assumes nothing.
use Rattle.std.specs.Prelude.{cond, map, take, List, [], ◌∷◌, ℕ}
use Rattle.text.specs.declared.line.Said.{Said}
use Rattle.text.specs.Gather.{is_in_line, line_room}
use Rattle.text.specs.Line.{read_line}

-- a byte at the front of the first of these lines, or in a line of its own
unfoldable pub put_in_front : ℕ → List (List ℕ) → List (List ℕ)
put_in_front b [] = (b ∷ []) ∷ []
put_in_front b (l ∷ ls) = (b ∷ l) ∷ ls

-- the lines, without their line feeds
unfoldable pub lines : List ℕ → List (List ℕ)
lines [] = []
lines (b ∷ s) = cond (is_in_line b) (put_in_front b (lines s)) ([] ∷ lines s)

-- of each line as much as there is room for
unfoldable pub kept_lines : List ℕ → List (List ℕ)
kept_lines s = map (take line_room) (lines s)

-- what each line says
unfoldable pub said_lines : List ℕ → List Said
said_lines s = map read_line (lines s)
