-- docs/BOOK.md, append: the case's record, with its answer and rating, stands in place of the trailer, and the new trailer after it.
-- Assumes nothing.
use Rattle.std.specs.Prelude.{cond, List, ◌++◌, ℕ, ◌+◌, ◌-◌, leb, ltb, length}
use Rattle.splice.specs.Splice.{splice}
use Rattle.book_laws.specs.Layout.{Layout, record_length, trailer_length}
use Rattle.book_laws.specs.Format.{record_bytes, trailer_bytes}
use Rattle.book_laws.specs.Trailer.{Description, on_book_in}
use Rattle.book_laws.specs.Start.{Written, unwritten}

-- 25 before 24
unfoldable pub append_after : Layout → Description → List ℕ → ℕ → List ℕ → Written
append_after l d b used x =
    cond (leb l.most d.count) (unwritten 25 b)
    (cond (ltb (length b) (used + record_length l)) (unwritten 24 b)
    (record {
      number = 0;
      used = used + record_length l;
      bytes = splice b (used - trailer_length l) (record_bytes l x ++ trailer_bytes l (d.count + 1));
    }))

unfoldable pub append_in : Layout → List ℕ → ℕ → List ℕ → Written
append_in l b used x = on_book_in l b used (λ n. unwritten n b) (λ d. append_after l d b used x)
