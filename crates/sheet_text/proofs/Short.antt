-- The labels of the tables are short enough for a row's room: a test that antt computes over a table, and what it says of a row.
-- Assumes nothing.
use Rattle.std.proofs.Common.{Bool, List, [], ◌&&◌, ◌<◌, ◌≡◌, ◌≤◌, ◌∷◌, ℕ, arith, get_or, leb, length, refl, suc, true, zero}
use Rattle.std.proofs.lemmas.Bool.{leb-true}
use Rattle.std.specs.List.{list_all}
use Rattle.bools.proofs.Laws.Tests.{both, either}
use Rattle.fields.specs.Fields.{width}
use Rattle.row_text.specs.Row.{Label}
use Rattle.row_text.specs.Laws.Row.{Short}
use Rattle.sheet_text.specs.Codes.{Words, words_of}
use Rattle.sheet_text.specs.FieldRows.{FieldRow, field_rows, is_nil, label_at, no_field}
use Rattle.sheet_text.specs.NumberRows.{NumberRow, loss_rows, no_number, sheet_rows}
use Rattle.sheet_text.specs.Laws.Tables.{AreShort}

-- what a test passes of all, it passes of each
at_each :
    {A : Type 0} (test : A → Bool) (xs : List A) (i : ℕ) (d : A) → list_all test xs ≡ true → i < length xs
    → test (get_or xs i d) ≡ true
at_each test [] i d all there = absurd (omega arith)
at_each test (x ∷ xs) zero d all there = (both (test x) (list_all test xs) all).0
at_each test (x ∷ xs) (suc i) d all there = at_each test xs i d (both (test x) (list_all test xs) all).1 (omega arith)

abbrev fits : ℕ → Words → Bool
fits most words = leb (length words) most

abbrev is_short : Label → Bool
is_short l = fits 11 l.symbol && (fits 10 l.unit && (fits 80 l.words && leb l.decimals 16))

short : (l : Label) → is_short l ≡ true → Short l
short l e =
    let symbol = both (fits 11 l.symbol) _ e in
    let unit = both (fits 10 l.unit) _ symbol.1 in
    let words = both (fits 80 l.words) (leb l.decimals 16) unit.1 in
    record {
      symbol = leb-true _ _ symbol.0;
      unit = leb-true _ _ unit.0;
      words = leb-true _ _ words.0;
      decimals = leb-true _ _ words.1;
    }

abbrev number_short : NumberRow → Bool
number_short r = is_short r.label

are_short : (rows : List NumberRow) → list_all number_short rows ≡ true → AreShort rows
are_short rows e = record { short = λ i there. short (get_or rows i no_number).label (at_each number_short rows i no_number e there) }

pub sheet_rows_short : AreShort sheet_rows
unfolding sheet_rows
sheet_rows_short = are_short sheet_rows refl

pub loss_rows_short : AreShort loss_rows
unfolding loss_rows
loss_rows_short = are_short loss_rows refl

-- of a field also what its codes stand for
abbrev field_short : FieldRow → Bool
field_short r = is_short r.label && list_all (fits 80) r.names

words_short : (names : List Words) (n : ℕ) → list_all (fits 80) names ≡ true → length (words_of names n) ≤ 80
unfolding words_of
words_short [] n e = omega arith
words_short (w ∷ ws) zero e = leb-true (length w) 80 (both (fits 80 w) (list_all (fits 80) ws) e).0
words_short (w ∷ ws) (suc n) e = words_short ws n (both (fits 80 w) (list_all (fits 80) ws) e).1

all_short : list_all field_short field_rows ≡ true
unfolding field_rows
all_short = refl

pub row_count : length field_rows ≡ width
unfolding field_rows
row_count = refl

pub field_label_short : (i n : ℕ) → i < width → Short (label_at (get_or field_rows i no_field) n)
unfolding label_at
field_label_short i n there =
    let r = get_or field_rows i no_field in
    let passed = at_each field_short field_rows i no_field all_short (omega (arith, row_count)) in
    let e = both (is_short r.label) (list_all (fits 80) r.names) passed in
    let own = short r.label e.0 in
    record {
      symbol = own.symbol;
      unit = own.unit;
      words =
          either (λ (w : Words). length w ≤ 80) (is_nil r.names) {a = r.label.words} {b = words_of r.names n} own.words
          (words_short r.names n e.1);
      decimals = own.decimals;
    }
