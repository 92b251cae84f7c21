-- What the current adds to a case (docs/RATING.md, 'Direct current'). Where it alternates, R is the a.c. resistance and the insulation has
-- its loss; where it is direct, R is R' and there is no such loss. Assumes nothing.
use Rattle.std.specs.Prelude.{cond, List, ℕ}
use Rattle.exact.specs.Fraction.{Fraction, whole}
use Rattle.rating.specs.Values.{R', R, Wd}
use Rattle.rating.specs.Chosen.{Chosen, R*, Wd*}
use Rattle.rating.specs.Arrangements.{own}

module _ (x : List ℕ) where
  -- a number that only an alternating current has, and 0 for a direct one
  abbrev pub of_alternating : ℕ → ℕ
  of_alternating v = cond (own x).alternates v 0

  unfoldable pub R_of : ℕ
  R_of = cond (own x).alternates (R x) (R' x)

  unfoldable pub Wd_of : ℕ
  Wd_of = of_alternating (Wd x)

  -- the same with no rounding

  unfoldable pub R_of* : Chosen → Fraction
  R_of* c = cond (own x).alternates (R* x c) (whole (R' x))

  unfoldable pub Wd_of* : Chosen → Fraction
  Wd_of* c = cond (own x).alternates (Wd* x c) (whole 0)
