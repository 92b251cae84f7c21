-- The loop over the lines keeps room for what is printed for the next.
use Rattle.std.proofs.Common.{◌+◌, ◌≤◌}
use Rattle.arrayvec.specs.ArrayString.{array_string_len}
use Rattle.sheet_lines.specs.Laws.Room.{printed_room}
use Rattle.sheet.proofs.main.Given as goal

abbrev pub invariant-loop-number : goal.invariant-loop-number
invariant-loop-number l = array_string_len l.out + printed_room ≤ 65536
