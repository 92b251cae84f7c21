-- Numbers that were read in front of what the rest of a line says. Assumes nothing.
use Rattle.std.specs.Prelude.{List, [], ◌∷◌, ◌++◌, ◌≡◌, refl, ℕ}
use Rattle.text.specs.declared.line.Said.{Said}
use Rattle.text.specs.declared.line.Said.TheVariants.{Case, Unreadable}
use Rattle.std.proofs.Common.{ap}
use Rattle.text.specs.Line.{before}

-- numbers in front of those that the rest says
unfoldable pub after : List ℕ → Said → Said
after [] r = r
after (x ∷ xs) r = before x (after xs r)

pub after_one : (xs : List ℕ) (x : ℕ) (r : Said) → after (xs ++ (x ∷ [])) r ≡ after xs (before x r)
unfolding after
after_one [] x r = refl
after_one (y ∷ xs) x r = ap (before y) (after_one xs x r)

pub after_unreadable : (xs : List ℕ) → after xs Unreadable ≡ Unreadable
unfolding after before
after_unreadable [] = refl
after_unreadable (x ∷ xs) = ap (before x) (after_unreadable xs)

pub after_none : (xs : List ℕ) → after xs (Case []) ≡ Case xs
unfolding after before
after_none [] = refl
after_none (x ∷ xs) = ap (before x) (after_none xs)
