-- `list_text::put_records` meets its contract: each turn appends the line of one more record, which says what stands in the book.
-- Assumes nothing.
use Rattle.std.proofs.Common.{add-one, append-nil, append_assoc, ap, ap₂, arith, sym, List, [], ℕ, ◌++◌, ◌+◌}
use Rattle.std.proofs.Common.{◌∙◌, ◌∷◌, ◌≡◌}
use Rattle.book_laws.specs.Layout.{Layout}
use Rattle.book_laws.specs.Record.{place_from, answer_at, rating_at}
use Rattle.decimals.specs.Decimal.{written}
use Rattle.list_text.specs.Listing.{record_line, record_lines}
use Rattle.list_text.proofs.put_records.Goals as goal

module _ (l : Layout) (b : List ℕ) (first : ℕ) where
  nothing : (text : List ℕ) → text ≡ text ++ record_lines l b first 0
  unfolding record_lines
  nothing text = sym (append-nil text)

  one_more : (i : ℕ) → record_lines l b first i ++ record_line l b first i ≡ record_lines l b first (i + 1)
  unfolding record_lines
  one_more i = ap (record_lines l b first) (sym (add-one i))

  -- the line of the record at `at`
  line_is :
      (i : ℕ) {at answer rating : ℕ} → at ≡ place_from l first i → answer ≡ answer_at l b at → rating ≡ rating_at l b at →
      written ((i + 1) ∷ answer ∷ rating ∷ []) ++ (10 ∷ []) ≡ record_line l b first i
  unfolding record_line
  line_is i at_is of_answer of_rating =
      ap₂ (λ (a r : ℕ). written ((i + 1) ∷ a ∷ r ∷ []) ++ (10 ∷ []))
      (of_answer ∙ ap (answer_at l b) at_is)
      (of_rating ∙ ap (rating_at l b) at_is)

pub loop-i-init : goal.loop-i-init
loop-i-init g c = (nothing _ _ _ _, omega arith)

pub loop-i-preserved : goal.loop-i-preserved
loop-i-preserved g c =
    let a = c.args in
    let i = c.loop-i.i in
    let said = c.of_bytes-record.ensures in
    let answer = c.from.ensures ∙ said.answer in
    let rating = c.from-in-loop-i.ensures ∙ said.rating in
    let line = line_is _ a.book.now a.first i c.place_from.ensures answer rating in (
      c.put_numbers.ensures.text
          ∙ ap₂ ◌++◌ c.loop-i.invariant.0 line
          ∙ append_assoc a.out.now.bytes _ _
          ∙ ap (λ (t : List ℕ). a.out.now.bytes ++ t) (one_more _ a.book.now a.first i),
      omega (arith, c.put_numbers.ensures.within),
    )
