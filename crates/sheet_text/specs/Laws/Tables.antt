-- The tables of the code as the definitions', and that their labels are short enough for a row's room. Assumes nothing.
use Rattle.std.specs.Prelude.{List, ℕ, ◌<◌, get_or, length, map}
use Rattle.row_text.specs.Laws.Row.{Short, label_text}
use Rattle.sheet_text.specs.declared.field_rows.Field.{Field}
use Rattle.sheet_text.specs.declared.numbers.Number.{Number}
use Rattle.sheet_text.specs.FieldRows.{FieldRow}
use Rattle.sheet_text.specs.NumberRows.{NumberRow, no_number}

abbrev pub field_text : Field → FieldRow
field_text f = record { label = label_text f.label; signed = f.signed; names = map (λ t. t.now) f.names.now }

abbrev pub number_text : Number → NumberRow
number_text n = record { label = label_text n.label; having = n.having }

pub record AreShort (rows : List NumberRow) : Type 0 where
  pub short : (i : ℕ) → i < length rows → Short (get_or rows i no_number).label
