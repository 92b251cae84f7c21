-- `book_bytes::record::Record::to_bytes` meets its contract. The invariant: the fields so far stand at the front. Assumes nothing.
use Rattle.std.proofs.Common.{length, replicate, take, ◌≡◌}
use Rattle.splice.specs.Splice.{splice}
use Rattle.book_laws.specs.Book.{new_layout}
use Rattle.book_laws.specs.Bytes.{words_bytes}
use Rattle.book_laws.specs.Layout.{record_length}
use Rattle.book_bytes.specs.Record.{fields_in}
use Rattle.book_bytes.proofs.record.Record.to_bytes.Given as goal

abbrev pub invariant-loop-i : goal.invariant-loop-i
invariant-loop-i l =
    (length l.stored ≡ record_length new_layout)
    × (l.stored ≡ splice (replicate (record_length new_layout) 0) 0 (words_bytes (take l.i (fields_in l.self))))
