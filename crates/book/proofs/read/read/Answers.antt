-- `book::read::read` meets its contract: the trailer's refusals, 26, and else the fields. Assumes nothing.
use Rattle.std.proofs.Common.{List, Ok, ap, arith, le-leb, refl, sym, ℕ, ◌++◌, ◌<◌, ◌∙◌, ◌≡◌, ◌≤◌}
use Rattle.std.proofs.lemmas.Bool.{lt-leb}
use Rattle.std.proofs.lemmas.Result.{err_from_is_err_and}
use Rattle.book_laws.specs.Book.{layout_of, read_of}
use Rattle.book_laws.specs.Format.{all_fields}
use Rattle.book_laws.specs.Layout.{Layout, missing}
use Rattle.book_laws.specs.Read.{read_after, read_in, unread}
use Rattle.book_laws.specs.Record.{answer_at, case_at, place_from, rating_at}
use Rattle.book_laws.specs.Trailer.{describe_in}
use Rattle.book_bytes.specs.declared.trailer.Description as Code
use Rattle.book_bytes.specs.Answers.{description_of}
use Rattle.book_bytes.specs.declared.record.Record.{Record}
use Rattle.book_bytes.specs.Record.{fields_in}
use Rattle.book.proofs.Described.{goes_on, record_fits, refused}
use Rattle.book.proofs.read.read.Goals as goal

module _ (b : List ℕ) (used index : ℕ) {l : Layout} (layout_is : l ≡ layout_of b used) where
  of_layout : read_in l b used index ≡ read_of b used index
  of_layout = ap (λ (k : Layout). read_in k b used index) layout_is

  module _ {d : Code.Description} (is : description_of (Ok d) ≡ describe_in l b used) where
    past_count : d.count ≤ index → unread 26 ≡ read_of b used index
    unfolding read_in read_after
    past_count past = sym (goes_on l b used is _ _ ∙ simp (le-leb _ _ past)) ∙ of_layout

    found :
        {r : Record} {at : ℕ} → at ≡ place_from l d.first index → index < d.count → r.case ≡ case_at l b at ++ missing l →
        r.answer ≡ answer_at l b at → r.rating ≡ rating_at l b at → record { number = 0; fields = fields_in r } ≡ read_of b used index
    unfolding read_in read_after all_fields
    found {r} {at} at_is within of_case of_answer of_rating =
        let fields_are : fields_in r ≡ all_fields l (case_at l b at) (answer_at l b at) (rating_at l b at) =
        rw (of_case, of_answer, of_rating) refl
        in
        let of_place = λ (k : ℕ). all_fields l (case_at l b k) (answer_at l b k) (rating_at l b k) in
        ap (λ (f : List ℕ). record { number = 0; fields = f }) (fields_are ∙ ap of_place at_is)
        ∙ sym (goes_on l b used is _ _ ∙ simp (lt-leb _ _ within))
        ∙ of_layout

pub returns-in_err-book : goal.returns-in_err-book
unfolding read_in
returns-in_err-book c =
    let p = err_from_is_err_and c.from_residual.result c.from_residual.ensures.1 in
    rw (p.1, p.2) (sym (refused _ _ _ _ c.in_err-book.ensures _ _) ∙ of_layout _ _ _ c.layout_of-layout.ensures)

pub returns-then-book-index : goal.returns-then-book-index
returns-then-book-index c = past_count _ _ _ c.layout_of-layout.ensures c.in_ok-book.ensures c.if-book-index.true

pub place_from-at-requires : goal.place_from-at-requires
place_from-at-requires c =
    let fits = record_fits _ _ _ c.in_ok-book.ensures c.args.index (omega (arith, c.if-book-index.false)) in omega (arith, fits)

pub of_bytes-requires : goal.of_bytes-requires
of_bytes-requires c =
    let fits = record_fits _ _ _ c.in_ok-book.ensures c.args.index (omega (arith, c.if-book-index.false)) in
    omega (arith, fits, c.place_from-at.ensures)

pub returns : goal.returns
returns c =
    let said = c.of_bytes.ensures in
    found _ _ _ c.layout_of-layout.ensures c.in_ok-book.ensures c.place_from-at.ensures (omega (arith, c.if-book-index.false)) said.case
    said.answer said.rating
