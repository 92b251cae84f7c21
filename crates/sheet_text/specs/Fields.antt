-- The rows of the fields of a case (docs/SHEET.md, 'The fields' and 'A refused case'), by the number of its answer. Assumes nothing.
use Rattle.std.specs.Prelude.{Bool, true, false, cond, List, [], ℕ, eqb, get_or}
use Rattle.fields.specs.Fields as Field
use Rattle.field_limits.specs.Marked.{has, outside, stray}
use Rattle.sheet_text.specs.FieldRows.{field_rows, field_row, no_field}
use Rattle.sheet_text.specs.InOrder.{in_order}
use Rattle.sheet_text.specs.Marks.{mark}

-- field i has a row: in a rated case where its arrangement has the field, in a refused one always
unfoldable pub shown : List ℕ → ℕ → ℕ → Bool
shown x answer i = cond (eqb answer 0) (has x i) true

-- field i is what the refusal with this number is about
unfoldable pub marked : List ℕ → ℕ → ℕ → Bool
marked x answer i =
    cond (eqb answer 1) (eqb i 0)
    (cond (eqb answer 2) (eqb i 1)
    (cond (eqb answer 3) (outside x i)
    (cond (eqb answer 4) (stray x i) false)))

abbrev pub field_piece : List ℕ → ℕ → ℕ → List ℕ
field_piece x answer i =
    cond (shown x answer i) (field_row (mark (marked x answer i)) (get_or field_rows i no_field) (Field.word x i)) []

unfoldable pub fields_text : List ℕ → ℕ → List ℕ
fields_text x answer = in_order (field_piece x answer) Field.width
