-- `sheet_text::numbers::put_numbers` meets its contract: each turn appends one more row. Assumes nothing.
use Rattle.std.proofs.Common.{List, length, ◌++◌, ◌∙◌, ◌≡◌, ℕ, ap, arith, map, pos, rules, subst}
use Rattle.std.proofs.lemmas.List.{get_or-map, get_or_default, length-map}
use Rattle.row_text.specs.Laws.Row.{Short}
use Rattle.sheet_text.specs.Laws.Tables.{number_text}
use Rattle.sheet_text.specs.NumberRows.{NumberRow, no_number}
use Rattle.sheet_text.specs.Numbers.{number_piece, numbers_text}
use Rattle.sheet_text.specs.InOrder.{in_order}
use Rattle.sheet_text.proofs.InOrder.{none_yet, one_more}
use Rattle.sheet_text.proofs.Rows.{number_piece_at}
use Rattle.sheet_text.proofs.numbers.put_numbers.Goals as goal

pub loop-i-init : goal.loop-i-init
loop-i-init g c =
    (none_yet c.args.out.now.bytes (number_piece c.args.a (map number_text c.args.rows.now) c.args.values.now), omega arith)

pub put_number-requires : goal.put_number-requires
put_number-requires g c =
    let rows = c.args.rows.now in
    let row_there = c.loop-i-test.true in
    let short =
    subst (λ (n : NumberRow). Short n.label) (get_or-map number_text rows c.loop-i.i _ no_number row_there)
    (c.requires.short.short c.loop-i.i (omega (arith, row_there, length-map rows number_text))) in
    (search rules, (omega (arith, c.requires.room, c.loop-i.invariant.1, row_there), short))

pub loop-i-preserved : goal.loop-i-preserved
loop-i-preserved g c =
    let rows = c.args.rows.now in
    let values = c.args.values.now in
    let i = c.loop-i.i in
    let piece = number_piece c.args.a (map number_text rows) values in
    let value = get_or_default values i _ (pos 0) (omega (arith, c.loop-i-test.true, c.requires.each)) in (
      c.put_number.ensures.text
          ∙ ap (λ (t : List ℕ). c.loop-i.out.bytes ++ t) (number_piece_at c.args.a rows values i _ _ c.loop-i-test.true value)
          ∙ ap (λ (t : List ℕ). t ++ piece i) c.loop-i.invariant.0
          ∙ one_more c.args.out.now.bytes piece i,
      omega (arith, c.put_number.ensures.within, c.loop-i.invariant.1),
    )

pub returns-clause-text : goal.returns-clause-text
unfolding numbers_text
returns-clause-text g c =
    let rows = c.args.rows.now in
    let piece = number_piece c.args.a (map number_text rows) c.args.values.now in
    let whole : c.loop-i.i ≡ length (map number_text rows) =
    omega (arith, c.loop-i-test.false, c.loop-i.auto.i-end, length-map rows number_text) in
    c.loop-i.invariant.0 ∙ ap (λ (n : ℕ). c.args.out.now.bytes ++ in_order piece n) whole
