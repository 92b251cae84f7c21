-- The words of a line: a word is a run of bytes that are neither blank nor tab. Assumes nothing.
use Rattle.std.specs.Prelude.{Bool, true, false, cond, not, ◌||◌, List, [], ◌∷◌, ◌≡◌, ℕ, zero, suc, ◌+◌, eqb, take, drop}
use Rattle.text.specs.Bytes.{tab, space}

-- a blank or a tab
unfoldable pub is_blank : ℕ → Bool
is_blank b = eqb b space || eqb b tab

-- any other byte
unfoldable pub is_ink : ℕ → Bool
is_ink b = not (is_blank b)

-- calls that return what the test p says of each byte
abbrev pub Decides : (ℕ → Bool → Type 0) → (ℕ → Bool) → Type 0
Decides post p = (b : ℕ) (r : Bool) → post b r → r ≡ p b

-- how many bytes at the start of a list pass a test
unfoldable pub run : (ℕ → Bool) → List ℕ → ℕ
run p [] = zero
run p (b ∷ s) = cond (p b) (suc (run p s)) zero

-- the place of the first byte from `from` on that does not pass, or the end
abbrev pub run_end : (ℕ → Bool) → List ℕ → ℕ → ℕ
run_end p s from = from + run p (drop from s)

unfoldable pub is_empty : List ℕ → Bool
is_empty [] = true
is_empty (b ∷ s) = false

-- what is left past the blanks at the start
unfoldable pub drop_blanks : List ℕ → List ℕ
drop_blanks s = drop (run is_blank s) s

-- the word at the start, and what is left past it
unfoldable pub word : List ℕ → List ℕ
word s = take (run is_ink s) s

unfoldable pub drop_word : List ℕ → List ℕ
drop_word s = drop (run is_ink s) s
