-- What an arrangement adds to a case (docs/RATING.md, 'The fields of a case' and stages 7 and 8): whether its current alternates, its own
-- part of the refusals, what the sheet shows of it alone, and n, S and W, rounded and exact. A new arrangement is one more value of this
-- type. Assumes nothing.
use Rattle.std.specs.Prelude.{Bool, ◌&&◌, List, ℕ, eqb}
use Rattle.exact.specs.Fraction.{Fraction}
use Rattle.fields.specs.Fields as Field
use Rattle.rating.specs.Within.{within}
use Rattle.rating.specs.Chosen.{Chosen}

pub record Arrangement : Type 0 where
  -- refusal 1: whether it is one
  pub known : Bool
  -- whether its current alternates; where it does not, it is direct
  pub alternates : Bool
  -- tests that a case passes beyond those of every arrangement with its current: of refusal 3, the limits of the fields that only some
  -- have; of 4, that the fields which it does not have are zero; of 5, 6 and 7
  pub limits : List ℕ → Bool
  pub unused : List ℕ → Bool
  pub geometry : List ℕ → Bool
  pub heat : List ℕ → Bool
  pub metal : List ℕ → Bool
  -- whether refusal 9 is tried
  pub eddies : Bool
  -- whether X is one of its values, and so the logarithm of 2s/d
  pub reactive : Bool
  -- RA and X as the sheet shows them
  pub RA : List ℕ → ℕ
  pub X : List ℕ → ℕ
  -- the number of cores, and the losses in sheath and armour; a star has no rounding
  pub n : ℕ
  pub S : List ℕ → ℕ
  pub W : List ℕ → ℕ
  pub S* : List ℕ → Chosen → Fraction
  pub W* : List ℕ → Chosen → Fraction

-- the limits of c, field 20, in a cable of three cores
unfoldable pub axis_limits : List ℕ → Bool
axis_limits x = within 100 50000 (Field.axis_distance x)

-- fields 17, 18, 19 and 21 are zero
unfoldable pub no_armour : List ℕ → Bool
no_armour x = eqb (Field.word x 17) 0 && eqb (Field.word x 18) 0 && eqb (Field.word x 19) 0 && eqb (Field.word x 21) 0

-- fields 17 to 21 are all zero
unfoldable pub armourless : List ℕ → Bool
armourless x = no_armour x && eqb (Field.word x 20) 0
