-- `rate_text::put_sheet` meets its contract. The invariant: the numbers so far stand after the text, in at most 21 bytes each.
-- Assumes nothing.
use Rattle.std.proofs.Common.{take, ◌*◌, ◌++◌, ◌+◌, ◌≡◌, ◌≤◌}
use Rattle.arrayvec.specs.ArrayString.{array_string_len}
use Rattle.decimals.specs.Decimal.{spaced}
use Rattle.rate_text.proofs.put_sheet.Given as goal

abbrev pub invariant-loop-x : goal.invariant-loop-x
invariant-loop-x g l =
    (l.out.bytes ≡ l.initial.out.bytes ++ spaced (take l.x-index l.x-items))
    × (array_string_len l.out ≤ array_string_len l.initial.out + 21 * l.x-index)
