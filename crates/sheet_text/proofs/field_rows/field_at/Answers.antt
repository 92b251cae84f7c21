-- `sheet_text::field_rows::field_at` meets its contract: the table has a row for each field. Assumes nothing.
use Rattle.std.proofs.Common.{ap, arith, length}
use Rattle.std.proofs.lemmas.List.{length-map}
use Rattle.sheet_text.specs.Laws.Tables.{field_text}
use Rattle.sheet_text.proofs.Short.{row_count}
use Rattle.sheet_text.proofs.field_rows.field_at.Goals as goal

pub bounds-field_rows-i : goal.bounds-field_rows-i
bounds-field_rows-i c =
    omega (arith, c.requires, row_count, ap length c.field_rows.ensures, length-map c.field_rows.result.now field_text)
