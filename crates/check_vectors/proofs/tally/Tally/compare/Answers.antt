-- `check_vectors::tally::Tally::compare` meets its contract: the first byte says with what the case is compared.
-- Assumes nothing.
use Rattle.std.proofs.Common.{Bool, true, false, refl, List, [], ◌∷◌, ◌≡◌, eqb, ℕ, sym, take, ◌∙◌}
use Rattle.std.specs.Cmp.Lexicographic.{pointwise}
use Rattle.std.proofs.Math.Bool.{and-true}
use Rattle.check_vectors.specs.Counts.{is_range}
use Rattle.check_vectors.proofs.tally.Tally.compare.Goals as goal

first_is : (line : List ℕ) (t : Bool) → pointwise eqb (take 1 line) (114 ∷ []) ≡ t → is_range line ≡ t
unfolding is_range
first_is [] true e = cc
first_is [] false e = refl
first_is (b ∷ line) t e = sym (and-true (eqb b 114)) ∙ e

pub returns-in-Some : goal.returns-in-Some
returns-in-Some c =
    let kind : is_range c.args.line.now ≡ true = first_is _ _ c.in-Some.ensures.cases.0 in
    (c.is_within.result, rw (kind, c.add.ensures))

pub returns-in-None : goal.returns-in-None
returns-in-None c =
    let kind : is_range c.args.line.now ≡ false = first_is _ _ c.in-None.ensures.cases in
    (c.is_same.result, rw (kind, c.add-in-None.ensures))
