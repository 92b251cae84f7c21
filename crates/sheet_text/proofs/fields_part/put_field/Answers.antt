-- `sheet_text::fields_part::put_field` meets its contract: the row's mark, label and number are the definition's. Assumes nothing.
use Rattle.std.proofs.Common.{List, ◌++◌, ◌∙◌, ◌≡◌, ℕ, ap, get_or, lit≤, of_z, rules, subst, sym, to_z, true}
use Rattle.std.specs.Int.{w128}
use Rattle.std.proofs.lemmas.Int.{to_z-of_z}
use Rattle.fields.specs.Fields.{word}
use Rattle.row_text.specs.Laws.Row.{Short}
use Rattle.sheet_text.specs.FieldRows.{FieldRow, field_rows, label_at, no_field, number_at}
use Rattle.sheet_text.specs.Fields.{shown}
use Rattle.sheet_text.specs.Marks.{mark}
use Rattle.sheet_text.proofs.Rows.{field_piece_at}
use Rattle.sheet_text.proofs.Short.{field_label_short}
use Rattle.sheet_text.proofs.fields_part.put_field.Goals as goal

pub put_row-requires : goal.put_row-requires
put_row-requires g c =
    let n = word c.args.x c.args.i in
    let label = c.label_at-label.ensures ∙ ap (λ (r : FieldRow). label_at r n) c.field_at-field.ensures in
    let short = subst Short (sym label) (field_label_short c.args.i n c.requires.there) in
    (search rules, (c.requires.room, (short, (c.mark.ensures.short, lit≤ tt))))

pub returns-then-shown-clause-text : goal.returns-then-shown-clause-text
returns-then-shown-clause-text g c =
    let x = c.args.x in
    let i = c.args.i in
    let n = word x i in
    let there : shown x c.args.answer i ≡ true = sym c.shown.ensures ∙ c.if-shown.true in
    let label = c.label_at-label.ensures ∙ ap (λ (r : FieldRow). label_at r n) c.field_at-field.ensures in
    let number : to_z w128 (of_z w128 c.number_at.result) ≡ number_at (get_or field_rows i no_field) n =
    to_z-of_z w128 c.number_at.result (record { sfits = c.number_at.type_inv })
    ∙ c.number_at.ensures
    ∙ ap (λ (r : FieldRow). number_at r n) c.field_at-field.ensures in
    let mark = c.mark.ensures.text ∙ ap mark c.marked.ensures in
    c.put_row.ensures.text
    ∙ ap (λ (t : List ℕ). c.args.out.now.bytes ++ t) (field_piece_at x c.args.answer i _ _ _ there mark label number)
