-- `row_text::columns::put_blanks` meets its contract. The invariant: so many blanks stand behind the text. Assumes nothing.
use Rattle.std.proofs.Common.{replicate, ◌++◌, ◌≡◌}
use Rattle.row_text.proofs.columns.put_blanks.Given as goal

abbrev pub invariant-loop-written : goal.invariant-loop-written
invariant-loop-written g l = l.out.bytes ≡ l.initial.out.bytes ++ replicate l._written 32
