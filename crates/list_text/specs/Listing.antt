-- docs/BOOK.md, the listing of a book: `book` with the count and one line a record, its number from 1, answer and rating; or the refusal's
-- number, and for 23 also the first record that disagrees. Each line ends in a line feed. Assumes nothing.
use Rattle.std.specs.Prelude.{cond, List, [], ◌∷◌, ◌++◌, ℕ, zero, suc, ◌+◌, eqb}
use Rattle.book_laws.specs.Layout.{Layout}
use Rattle.book_laws.specs.Record.{place_from, answer_at, rating_at}
use Rattle.book_laws.specs.Accept.{Acceptance}
use Rattle.book_laws.specs.Book.{layout_of, accept_of}
use Rattle.decimals.specs.Decimal.{decimal, written}

-- the line of record i, from 0, of a book whose first record stands at `first`: its number from 1, its answer and its rating
unfoldable pub record_line : Layout → List ℕ → ℕ → ℕ → List ℕ
record_line l b first i =
    let at = place_from l first i in
    written ((i + 1) ∷ answer_at l b at ∷ rating_at l b at ∷ []) ++ (10 ∷ [])

-- the lines of the first n records
unfoldable pub record_lines : Layout → List ℕ → ℕ → ℕ → List ℕ
record_lines l b first zero = []
record_lines l b first (suc n) = record_lines l b first n ++ record_line l b first n

-- "book " and the count
unfoldable pub book_line : ℕ → List ℕ
book_line count = (98 ∷ 111 ∷ 111 ∷ 107 ∷ 32 ∷ []) ++ decimal count ++ (10 ∷ [])

-- "refused " and the number
unfoldable pub refused_line : ℕ → List ℕ
refused_line number = (114 ∷ 101 ∷ 102 ∷ 117 ∷ 115 ∷ 101 ∷ 100 ∷ 32 ∷ []) ++ decimal number ++ (10 ∷ [])

-- "refused 23 at " and the record
unfoldable pub disagrees_line : ℕ → List ℕ
disagrees_line k =
    (114 ∷ 101 ∷ 102 ∷ 117 ∷ 115 ∷ 101 ∷ 100 ∷ 32 ∷ 50 ∷ 51 ∷ 32 ∷ 97 ∷ 116 ∷ 32 ∷ []) ++ decimal k ++ (10 ∷ [])

-- by a refusal's number, and the record that 23 names
unfoldable pub refusal_line : ℕ → ℕ → List ℕ
refusal_line number named = cond (eqb number 23) (disagrees_line named) (refused_line number)

-- by what accept answers: the first record stands after the note
unfoldable pub listing_for : Layout → List ℕ → Acceptance → List ℕ
listing_for l b a =
    cond (eqb a.number 0) (book_line a.count ++ record_lines l b a.note a.count) (refusal_line a.number a.named)

unfoldable pub listing_of : List ℕ → ℕ → List ℕ
listing_of b used = listing_for (layout_of b used) b (accept_of b used)
