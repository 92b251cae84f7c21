-- docs/RATING.md, 'The exact rise': which fractions may stand for pi, ln 2 and the logarithms of a case, in an arrangement: any between the
-- stated ends, the ends included. Pi, ln 2 and the logarithm of Di/ds are asked for where the current alternates, and that of 2s/d where X
-- is one of the arrangement's values. Assumes nothing.
use Rattle.std.specs.Prelude.{◌≡◌, true, List, ℕ, ◌*◌}
use Rattle.formulas.specs.Constants.{IsPi, IsLn2}
use Rattle.formulas.specs.Logarithm.{IsLog}
use Rattle.fields.specs.Fields as Field
use Rattle.rating.specs.Chosen.{Chosen}
use Rattle.rating.specs.Arrangement.{Arrangement}

pub record Allowed (a : Arrangement) (x : List ℕ) (c : Chosen) : Type 0 where
  pub pi : a.alternates ≡ true → IsPi c.pi
  pub ln2 : a.alternates ≡ true → IsLn2 c.ln2
  pub log_spacing : a.reactive ≡ true → IsLog (2 * Field.spacing x) (Field.sheath_diameter x) c.log_spacing
  pub log_insulation : a.alternates ≡ true → IsLog (Field.insulation_diameter x) (Field.screen_diameter x) c.log_insulation
