-- `list_text::put_records` meets its contract. The invariant: the lines of the records so far stand after the text, in at most 63
-- bytes each. Assumes nothing.
use Rattle.std.proofs.Common.{◌*◌, ◌++◌, ◌+◌, ◌≡◌, ◌≤◌}
use Rattle.arrayvec.specs.ArrayString.{array_string_len}
use Rattle.book_bytes.specs.Layout.{layout_as}
use Rattle.list_text.specs.Listing.{record_lines}
use Rattle.list_text.proofs.put_records.Given as goal

abbrev pub invariant-loop-i : goal.invariant-loop-i
invariant-loop-i g l =
    (l.out.bytes ≡ l.initial.out.bytes ++ record_lines (layout_as l.layout) l.book l.first l.i)
    × (array_string_len l.out ≤ array_string_len l.initial.out + 63 * l.i)
