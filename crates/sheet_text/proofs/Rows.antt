-- A row of a table of the code, and its value, are the definition's. Assumes nothing.
use Rattle.std.proofs.Common.{Bool, [], List, ◌<◌, ◌≡◌, ◌∙◌, ℕ, ℤ, ap, ap₂, true, cond, false, get_or, length, map, pos, sym}
use Rattle.std.proofs.lemmas.List.{get_or-map}
use Rattle.fields.specs.Fields.{word}
use Rattle.row_text.specs.Row.{Label, row}
use Rattle.row_text.specs.Laws.Row.{label_text}
use Rattle.sheet_text.specs.declared.numbers.Number.{Number}
use Rattle.sheet_text.specs.Laws.Tables.{number_text}
use Rattle.sheet_text.specs.FieldRows.{field_digits, field_row, field_rows, label_at, no_field, number_at}
use Rattle.sheet_text.specs.Fields.{field_piece, marked, shown}
use Rattle.sheet_text.specs.Marks.{mark}
use Rattle.sheet_text.specs.NumberRows.{NumberRow, has, no_number}
use Rattle.sheet_text.specs.Numbers.{digits, number_piece}

pub number_piece_at :
    (a : ℕ) (rows : List Number) (values : List ℤ) (i : ℕ) (r : Number) (z : ℤ) → i < length rows → z ≡ get_or values i (pos 0)
    → cond (has (get_or rows i r).having a) (row (mark false) digits (label_text (get_or rows i r).label) z) []
    ≡ number_piece a (map number_text rows) values i
number_piece_at a rows values i r z there value =
    ap₂ (λ (n : NumberRow) (v : ℤ). cond (has n.having a) (row (mark false) digits n.label v) [])
    (sym (get_or-map number_text rows i r no_number there)) value

-- what is written for a field that the sheet shows
pub field_piece_at :
    (x : List ℕ) (answer i : ℕ) (m : List ℕ) (l : Label) (z : ℤ) → shown x answer i ≡ true → m ≡ mark (marked x answer i)
    → l ≡ label_at (get_or field_rows i no_field) (word x i) → z ≡ number_at (get_or field_rows i no_field) (word x i)
    → row m field_digits l z ≡ field_piece x answer i
unfolding field_row
field_piece_at x answer i m l z there m_is l_is z_is =
    let r = get_or field_rows i no_field in
    (λ k. row (m_is k) field_digits (l_is k) (z_is k))
    ∙ sym (ap (λ (t : Bool). cond t (field_row (mark (marked x answer i)) r (word x i)) []) there)
