-- Which fields of a case refusal 3 is about, those outside their limits, and which refusal 4, those that are not zero and should be. No
-- place behind the last field is either. Assumes nothing.
use Rattle.std.specs.Prelude.{Bool, cond, not, ◌&&◌, ◌||◌, List, ℕ, eqb, ltb, ℤ, pos}
use Rattle.std.specs.List.{list_any, range_with_len}
use Rattle.fields.specs.Fields as Field
use Rattle.rating.specs.Within.{within_z}
use Rattle.rating.specs.FieldRefusals.{moist}
use Rattle.field_limits.specs.Limits.{row}

-- the arrangement of the case x has field i
unfoldable pub has : List ℕ → ℕ → Bool
has x i = list_any (λ k. eqb k (Field.arrangement x)) (row i).arrangements

-- what field i says
unfoldable pub value : List ℕ → ℕ → ℤ
value x i = cond (row i).signed (Field.temperature x i) (pos (Field.word x i))

-- field i is from low to high, or it is ρ, field 27, and 0
unfoldable pub allowed : List ℕ → ℕ → Bool
allowed x i = (eqb i 27 && moist x) || within_z (row i).low (row i).high (value x i)

unfoldable pub outside : List ℕ → ℕ → Bool
outside x i = has x i && not (allowed x i)

-- field i should be zero: the arrangement does not have it, or it is θx, field 28, and no soil dries out
unfoldable pub unused : List ℕ → ℕ → Bool
unused x i = not (has x i) || (eqb i 28 && moist x)

unfoldable pub stray : List ℕ → ℕ → Bool
stray x i = ltb i Field.width && unused x i && not (eqb (Field.word x i) 0)

-- one of fields 2 to 29 passes a test. Fields 0 and 1 have refusals of their own.
abbrev pub any_field : (ℕ → Bool) → Bool
any_field test = list_any test (range_with_len 2 28)
