-- docs/BOOK.md, read: the fields of a record by its index from 0, as written, not judged; a field that the book's layout does not store
-- is zero. Assumes nothing.
use Rattle.std.specs.Prelude.{cond, List, [], ◌∷◌, ◌++◌, ℕ, zero, suc, ◌+◌, leb, take, replicate}
use Rattle.fields.specs.Fields.{width}
use Rattle.book_laws.specs.Layout.{Layout}
use Rattle.book_laws.specs.Format.{all_fields}
use Rattle.book_laws.specs.Trailer.{Description, on_book_in}
use Rattle.book_laws.specs.Record.{place_from, case_at, answer_at, rating_at}

-- 0 or the refusal's number, and the fields
pub record Fields : Type 0 where
  pub number : ℕ
  pub fields : List ℕ

unfoldable pub unread : ℕ → Fields
unread n = record { number = n; fields = replicate (width + 2) 0 }

unfoldable pub read_after : Layout → Description → List ℕ → ℕ → Fields
read_after l d b index =
    let at = place_from l d.first index in
    cond (leb d.count index) (unread 26)
    (record { number = 0; fields = all_fields l (case_at l b at) (answer_at l b at) (rating_at l b at) })

unfoldable pub read_in : Layout → List ℕ → ℕ → ℕ → Fields
read_in l b used index = on_book_in l b used unread (λ d. read_after l d b index)

-- the cases of the first n records: of each, the inputs that the layout stores
unfoldable pub cases_read_in : Layout → List ℕ → ℕ → ℕ → List (List ℕ)
cases_read_in l b used zero = []
cases_read_in l b used (suc n) = cases_read_in l b used n ++ (take l.inputs (read_in l b used n).fields ∷ [])
