-- docs/RATING.md, 'The refusals': all of a case, in the order in which they are tried, each with its number and whether it is given.
-- Assumes nothing.
use Rattle.std.specs.Prelude.{List, ◌++◌, ℕ}
use Rattle.bools.specs.First.{Refusal}
use Rattle.rating.specs.FieldRefusals.{field_refusals}
use Rattle.rating.specs.StageRefusals.{stage_refusals}

unfoldable pub refusals_of : List ℕ → List Refusal
refusals_of x = field_refusals x ++ stage_refusals x
