-- `book::accept::accept` meets its contract. The invariant: all records so far agree. Assumes nothing.
use Rattle.std.proofs.Common.{true, ◌≡◌}
use Rattle.book_bytes.specs.Layout.{layout_as}
use Rattle.book_laws.specs.Record.{all_agree}
use Rattle.book.proofs.accept.accept.Given as goal

abbrev pub invariant-loop-i : goal.invariant-loop-i
invariant-loop-i l = all_agree (layout_as l.layout) l.buffer l.book.first l.i ≡ true
