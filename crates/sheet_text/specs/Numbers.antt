-- The rows of numbers that an arrangement has (docs/SHEET.md, 'A rated case'). Assumes nothing.
use Rattle.std.specs.Prelude.{cond, false, List, [], ℕ, ℤ, pos, get_or, length}
use Rattle.row_text.specs.Row.{row}
use Rattle.sheet_text.specs.InOrder.{in_order}
use Rattle.sheet_text.specs.Marks.{mark}
use Rattle.sheet_text.specs.NumberRows.{NumberRow, has, no_number}

-- the digits of the column after the point, in all rows below the fields
abbrev pub digits : ℕ
digits = 16

abbrev pub number_piece : ℕ → List NumberRow → List ℤ → ℕ → List ℕ
number_piece a rows values i =
    let r = get_or rows i no_number in
    cond (has r.having a) (row (mark false) digits r.label (get_or values i (pos 0))) []

-- those that arrangement a has, each with its value
unfoldable pub numbers_text : ℕ → List NumberRow → List ℤ → List ℕ
numbers_text a rows values = in_order (number_piece a rows values) (length rows)
