-- `book::append::append` meets its contract: the trailer's refusals, 25, 24, and else the record and the new trailer are written.
-- Assumes nothing.
use Rattle.std.proofs.Common.{List, Ok, ap, ap₂, arith, le-leb, le-ltb, length, lt-ltb, refl, sym, ℕ, ◌++◌, ◌+◌, ◌-◌, ◌<◌, ◌∙◌, ◌≡◌, ◌≤◌}
use Rattle.std.proofs.lemmas.Bool.{lt-leb}
use Rattle.std.proofs.lemmas.Result.{err_from_is_err_and}
use Rattle.splice.specs.Splice.{splice}
use Rattle.splice.proofs.Laws.Splice.{splice_after, splice_length}
use Rattle.book_laws.specs.Append.{append_after, append_in}
use Rattle.book_laws.specs.Book.{append_of, new_layout}
use Rattle.book_laws.specs.Bytes.{words_bytes}
use Rattle.book_laws.specs.Format.{fields_of, record_bytes, trailer_bytes}
use Rattle.book_laws.specs.Layout.{record_length, trailer_length}
use Rattle.book_laws.specs.Start.{unwritten}
use Rattle.book_laws.specs.Trailer.{describe_in}
use Rattle.book_bytes.specs.declared.trailer.Description as Code
use Rattle.book_bytes.specs.Answers.{description_of}
use Rattle.book_bytes.specs.declared.record.Record.{Record}
use Rattle.book_bytes.specs.Record.{fields_in}
use Rattle.rating.specs.Rate.{rate_of}
use Rattle.book.proofs.Described.{book_of, goes_on, refused}
use Rattle.book.proofs.append.append.Goals as goal

module _ (b : List ℕ) (used : ℕ) (x : List ℕ) {d : Code.Description} (is : description_of (Ok d) ≡ describe_in new_layout b used) where
  full : new_layout.most ≤ d.count → unwritten 25 b ≡ append_of b used x
  unfolding append_in append_after
  full most = sym (goes_on new_layout b used is _ _ ∙ simp (le-leb _ _ most))

  no_room : d.count < new_layout.most → length b - used < record_length new_layout → unwritten 24 b ≡ append_of b used x
  unfolding append_in append_after
  no_room few short =
      let past : length b < used + record_length new_layout = omega (arith, (book_of new_layout b used is).used_most) in
      sym (goes_on new_layout b used is _ _ ∙ simp (lt-leb _ _ few, lt-ltb _ _ past))

  appended :
      {s t m n : List ℕ} (used' : ℕ) → d.count < new_layout.most → used + record_length new_layout ≤ length b →
      used' ≡ used + record_length new_layout → s ≡ record_bytes new_layout x → t ≡ trailer_bytes new_layout (d.count + 1) →
      length s ≡ record_length new_layout → m ≡ splice b (used - trailer_length new_layout) s →
      n ≡ splice m (used - trailer_length new_layout + record_length new_layout) t →
      record { number = 0; used = used'; bytes = n } ≡ append_of b used x
  unfolding append_in append_after
  appended {s} {t} {m} {n} used' few fits used_is record_is trailer_is size put_record put_trailer =
      let at = used - trailer_length new_layout in
      let place : at + record_length new_layout ≡ at + length s = omega (arith, size) in
      let bytes_are : n ≡ splice b at (record_bytes new_layout x ++ trailer_bytes new_layout (d.count + 1)) =
      put_trailer
      ∙ ap (λ (l : List ℕ). splice l (at + record_length new_layout) t) put_record
      ∙ ap (λ (k : ℕ). splice (splice b at s) k t) place
      ∙ splice_after b at s t (omega arith)
      ∙ ap₂ (λ (u v : List ℕ). splice b at (u ++ v)) record_is trailer_is
      in
      rw (used_is, bytes_are) (sym (goes_on new_layout b used is _ _ ∙ simp (lt-leb _ _ few, le-ltb _ _ fits)))

-- the fields of the record that a case gets
fields_rated :
    (x : List ℕ) {r : Record} → r.case ≡ x → r.answer ≡ (rate_of x).number → r.rating ≡ (rate_of x).rating →
    fields_in r ≡ fields_of new_layout x
unfolding fields_of
fields_rated x {r} of_case of_answer of_rating = rw (of_case, of_answer, of_rating) refl

pub returns-in_err-book : goal.returns-in_err-book
unfolding append_in
returns-in_err-book c =
    let p = err_from_is_err_and c.from_residual.result c.from_residual.ensures.1 in
    rw (p.1, p.2) (sym (refused _ _ _ _ c.in_err-book.ensures _ _))

pub returns-then-book-ge-MOST_RECORDS : goal.returns-then-book-ge-MOST_RECORDS
returns-then-book-ge-MOST_RECORDS c = full _ _ _ c.in_ok-book.ensures c.if-book-ge-MOST_RECORDS.true

pub overflow_sub-buffer : goal.overflow_sub-buffer
overflow_sub-buffer c = (book_of _ _ _ c.in_ok-book.ensures).used_most

pub returns-then-buffer-used-lt-RECORD_LENGTH : goal.returns-then-buffer-used-lt-RECORD_LENGTH
returns-then-buffer-used-lt-RECORD_LENGTH c =
    no_room _ _ _ c.in_ok-book.ensures c.if-book-ge-MOST_RECORDS.false c.if-buffer-used-lt-RECORD_LENGTH.true

pub overflow_sub-at : goal.overflow_sub-at
overflow_sub-at c = omega (arith, (book_of _ _ _ c.in_ok-book.ensures).places)

pub put-requires-2 : goal.put-requires-2
put-requires-2 c =
    let book = book_of _ _ _ c.in_ok-book.ensures in
    let long = ap length c.put.ensures ∙ splice_length _ _ _ (omega (arith, book.places, book.used_most)) in
    omega (arith, long, book.places, book.used_most)

pub returns : goal.returns
unfolding record_bytes
returns c =
    let book = book_of _ _ _ c.in_ok-book.ensures in
    let rated = c.of_case.ensures in
    appended _ _ _ c.in_ok-book.ensures _ c.if-book-ge-MOST_RECORDS.false (omega (arith, book.places, book.used_most))
    (omega (arith, book.places)) (c.to_bytes.ensures ∙ ap words_bytes (fields_rated _ rated.case rated.answer rated.rating))
    c.trailer_of.ensures (omega arith) c.put.ensures c.put-2.ensures
