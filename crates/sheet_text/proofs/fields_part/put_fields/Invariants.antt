-- `sheet_text::fields_part::put_fields` meets its contract. The invariant: the rows so far stand behind the text, each in its room.
-- Assumes nothing.
use Rattle.std.proofs.Common.{◌*◌, ◌++◌, ◌+◌, ◌≡◌, ◌≤◌}
use Rattle.arrayvec.specs.ArrayString.{array_string_len}
use Rattle.row_text.specs.Laws.Row.{row_room}
use Rattle.sheet_text.specs.Fields.{field_piece}
use Rattle.sheet_text.specs.InOrder.{in_order}
use Rattle.sheet_text.proofs.fields_part.put_fields.Given as goal

abbrev pub invariant-loop-i : goal.invariant-loop-i
invariant-loop-i g l =
    (l.out.bytes ≡ l.initial.out.bytes ++ in_order (field_piece l.x l.answer) l.i)
    × (array_string_len l.out ≤ array_string_len l.initial.out + l.i * row_room)
