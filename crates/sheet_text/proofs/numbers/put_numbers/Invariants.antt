-- `sheet_text::numbers::put_numbers` meets its contract. The invariant: the rows so far stand behind the text, each in its room.
-- Assumes nothing.
use Rattle.std.proofs.Common.{map, ◌*◌, ◌++◌, ◌+◌, ◌≡◌, ◌≤◌}
use Rattle.arrayvec.specs.ArrayString.{array_string_len}
use Rattle.row_text.specs.Laws.Row.{row_room}
use Rattle.sheet_text.specs.InOrder.{in_order}
use Rattle.sheet_text.specs.Laws.Tables.{number_text}
use Rattle.sheet_text.specs.Numbers.{number_piece}
use Rattle.sheet_text.proofs.numbers.put_numbers.Given as goal

abbrev pub invariant-loop-i : goal.invariant-loop-i
invariant-loop-i g l =
    (l.out.bytes ≡ l.initial.out.bytes ++ in_order (number_piece l.a (map number_text l.rows) l.values) l.i)
    × (array_string_len l.out ≤ array_string_len l.initial.out + l.i * row_room)
