-- `book_bytes::record::Record::of_fields` meets its contract: after the loop each number of the case is the field of its place, and the
-- places behind them are zeros still. Assumes nothing.
use Rattle.std.proofs.Common.{List, ap₂, arith, drop, take, ℕ, ◌*◌, ◌++◌, ◌+◌, ◌-◌, ◌∙◌, ◌≡◌, ◌≤◌}
use Rattle.std.proofs.lemmas.List.{drop-replicate}
use Rattle.fields.specs.Fields.{width}
use Rattle.book_laws.specs.Bytes.{word_at}
use Rattle.book_bytes.proofs.Parts.{number_in, part_taken, words_at_all}
use Rattle.book_bytes.proofs.record.Record.of_fields.Goals as goal

-- a field of the record, whose bytes were taken out of the buffer
field_in : (b : List ℕ) (at n i : ℕ) → i + 4 ≤ n → word_at (take (at + n - at) (drop at b)) i ≡ word_at b (at + i)
field_in b at n i within = number_in b _ at _ (part_taken b at (at + n - at)) i 4 (omega (arith, within))

pub returns-clause-case : goal.returns-clause-case
returns-clause-case g c =
    let at_loop = c.loop-i in
    let b = c.args.buffer.now in
    ap₂ ◌++◌
    (words_at_all b at_loop.field-items c.args.at g.row.N at_loop.invariant.0
    (λ k h. at_loop.invariant.1 k (omega arith) ∙ field_in b c.args.at (4 * (g.row.N + 2)) (4 * k) (omega (arith, h))))
    (drop-replicate g.row.N width 0)

pub returns-clause-answer : goal.returns-clause-answer
returns-clause-answer g c = c.word_at-2.ensures ∙ field_in _ _ (4 * (g.row.N + 2)) (4 * g.row.N) (omega arith)

pub returns-clause-rating : goal.returns-clause-rating
returns-clause-rating g c = c.word_at-3.ensures ∙ field_in _ _ (4 * (g.row.N + 2)) (4 * (g.row.N + 1)) (omega arith)
