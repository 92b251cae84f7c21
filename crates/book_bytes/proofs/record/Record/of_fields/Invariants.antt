-- `book_bytes::record::Record::of_fields` meets its contract. The invariant: each number of the case so far is the field of its place.
-- Assumes nothing.
use Rattle.std.proofs.Common.{get_or, length, ℕ, ◌*◌, ◌<◌, ◌≡◌}
use Rattle.book_laws.specs.Bytes.{word_at}
use Rattle.book_bytes.proofs.record.Record.of_fields.Given as goal

abbrev pub invariant-loop-i : goal.invariant-loop-i
invariant-loop-i g l =
    (length l.field-items ≡ g.row.N) × ((k : ℕ) → k < l.i → get_or l.field-items k 0 ≡ word_at l.stored (4 * k))
