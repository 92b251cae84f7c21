-- The lines of a few bytes: of "ab", an empty line and a "c" at the end; of "a" and a line feed, after which no line comes; of a line feed
-- alone; and of nothing. Assumes nothing.
use Rattle.std.specs.Prelude.{[], ◌∷◌, ◌≡◌, refl}
use Rattle.input.specs.Lines.{lines, put_in_front}
use Rattle.text.specs.Gather.{is_in_line}

three : lines (97 ∷ 98 ∷ 10 ∷ 10 ∷ 99 ∷ []) ≡ (97 ∷ 98 ∷ []) ∷ [] ∷ (99 ∷ []) ∷ []
unfolding lines put_in_front is_in_line
three = refl

ended : lines (97 ∷ 10 ∷ []) ≡ (97 ∷ []) ∷ []
unfolding lines put_in_front is_in_line
ended = refl

empty : lines (10 ∷ []) ≡ [] ∷ []
unfolding lines put_in_front is_in_line
empty = refl

none : lines [] ≡ []
unfolding lines
none = refl
