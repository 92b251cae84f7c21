-- docs/BOOK.md, 'The bytes', of a layout: what a record and a trailer are written as, what read answers of a record, and where the
-- trailer's numbers are read. Assumes nothing.
use Rattle.std.specs.Prelude.{List, [], ◌∷◌, ◌++◌, ℕ, ◌+◌, ◌*◌}
use Rattle.book_laws.specs.Bytes.{number_bytes, number_at, word_bytes, word_at, words_bytes}
use Rattle.book_laws.specs.Layout.{Layout, missing, record_length}

-- A record is the inputs, the answer (0 rated, else the refusal) and the rating.

unfoldable pub fields_of : Layout → List ℕ → List ℕ
fields_of l x = let a = l.rule x in x ++ (a.number ∷ a.rating ∷ [])

unfoldable pub record_bytes : Layout → List ℕ → List ℕ
record_bytes l x = words_bytes (fields_of l x)

unfoldable pub records_bytes : Layout → List (List ℕ) → List ℕ
records_bytes l [] = []
records_bytes l (x ∷ xs) = record_bytes l x ++ records_bytes l xs

-- What read answers of a record: all inputs of its case, the answer and the rating.

unfoldable pub all_fields : Layout → List ℕ → (number rating : ℕ) → List ℕ
all_fields l x number rating = x ++ missing l ++ (number ∷ rating ∷ [])

-- of the record of a case
unfoldable pub answered_fields : Layout → List ℕ → List ℕ
answered_fields l x = let a = l.rule x in all_fields l x a.number a.rating

-- The trailer is the mark, the count, the distance back to the first record and the record length.

unfoldable pub trailer_bytes : Layout → ℕ → List ℕ
trailer_bytes l count =
    l.mark ++ number_bytes l.width count ++ number_bytes l.width (record_length l * count) ++ word_bytes (record_length l)

-- The numbers of the trailer at `at`.

abbrev pub count_at : Layout → List ℕ → ℕ → ℕ
count_at l b at = number_at b (at + 4) l.width

abbrev pub distance_at : Layout → List ℕ → ℕ → ℕ
distance_at l b at = number_at b (at + (4 + l.width)) l.width

abbrev pub length_at : Layout → List ℕ → ℕ → ℕ
length_at l b at = word_at b (at + (4 + 2 * l.width))
