-- `book_bytes::trailer::wrong_trailer` meets its contract. The count is tried first, so that a record's length times it cannot wrap.
-- Assumes nothing.
use Rattle.std.proofs.Common.{arith, eqb, le-ltb, lt-ltb, ltb, not, sym, true, ℕ, ◌*◌, ◌<◌, ◌≡◌, ◌≤◌, ◌||◌}
use Rattle.book_laws.specs.Layout.{record_length}
use Rattle.book_laws.specs.Trailer.{wrong_trailer}
use Rattle.book_bytes.specs.declared.layout.Layout.{Layout}
use Rattle.book_bytes.specs.Layout.{layout_as}
use Rattle.book_bytes.proofs.Layouts.{most_is}
use Rattle.book_bytes.proofs.trailer.wrong_trailer.Goals as goal

module _ (l : Layout) (before count distance size : ℕ) where
  too_many : 100000 < count → true ≡ wrong_trailer (layout_as l) before count distance size
  unfolding wrong_trailer
  too_many many = sym (simp (lt-ltb (layout_as l).most count (omega (arith, many, most_is l))))

  few_enough :
      {each : ℕ} → count ≤ 100000 → each ≡ record_length (layout_as l) →
      not (eqb distance (each * count)) || not (eqb size each) || ltb before distance
      ≡ wrong_trailer (layout_as l) before count distance size
  unfolding wrong_trailer
  few_enough few is = rw is (sym (simp (le-ltb (layout_as l).most count (omega (arith, few, most_is l)))))

pub returns-then-count-gt-MOST_RECORDS : goal.returns-then-count-gt-MOST_RECORDS
returns-then-count-gt-MOST_RECORDS c = too_many _ _ _ _ _ c.if-count-gt-MOST_RECORDS.true

pub returns : goal.returns
returns c = few_enough _ _ _ _ _ c.if-count-gt-MOST_RECORDS.false c.record_length-record.ensures
