-- `sheet_text::fields_part::put_fields` meets its contract: each turn appends one more field's row, if it has one. Assumes nothing.
use Rattle.std.proofs.Common.{List, ◌++◌, ◌∙◌, ◌≡◌, ℕ, ap, arith}
use Rattle.fields.specs.Fields.{width}
use Rattle.sheet_text.specs.Fields.{field_piece, fields_text}
use Rattle.sheet_text.specs.InOrder.{in_order}
use Rattle.sheet_text.proofs.InOrder.{none_yet, one_more}
use Rattle.sheet_text.proofs.fields_part.put_fields.Goals as goal

pub loop-i-init : goal.loop-i-init
loop-i-init g c = (none_yet c.args.out.now.bytes (field_piece c.args.x c.args.answer), omega arith)

pub loop-i-preserved : goal.loop-i-preserved
loop-i-preserved g c =
    let piece = field_piece c.args.x c.args.answer in
    let i = c.loop-i.i in (
      c.put_field.ensures.text
          ∙ ap (λ (t : List ℕ). t ++ piece i) c.loop-i.invariant.0
          ∙ one_more c.args.out.now.bytes piece i,
      omega (arith, c.put_field.ensures.within, c.loop-i.invariant.1),
    )

pub returns-clause-text : goal.returns-clause-text
unfolding fields_text
returns-clause-text g c =
    let piece = field_piece c.args.x c.args.answer in
    let whole : c.loop-i.i ≡ width = omega (arith, c.loop-i-test.false, c.loop-i.auto.i-end) in
    c.loop-i.invariant.0 ∙ ap (λ (n : ℕ). c.args.out.now.bytes ++ in_order piece n) whole
