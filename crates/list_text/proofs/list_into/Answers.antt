-- `list_text::list_into` meets its contract: the first line and the records, or the refusal. The count of a book within 65536 bytes
-- leaves room for its lines. Assumes nothing.
use Rattle.std.proofs.Common.{ap, arith, eqb, false, length, refl, rules, subst, sym, List, Ok, Err, ℕ}
use Rattle.std.proofs.Common.{◌*◌, ◌++◌, ◌≤◌, ◌∙◌, ◌≡◌}
use Rattle.book.specs.Answers.{acceptance_of}
use Rattle.book_bytes.specs.declared.trailer.Description.{Description}
use Rattle.book_bytes.specs.declared.refusal.Refusal.{Refusal}
use Rattle.book_bytes.specs.declared.refusal.Refusal.TheVariants.{Length, Mark, Trailer, Disagrees, Space, Full, Index}
use Rattle.book_bytes.specs.Refusal.{named_by, number_of}
use Rattle.book_laws.specs.Accept.{unaccepted}
use Rattle.book_laws.specs.Book.{accept_of, layout_of}
use Rattle.book_laws.proofs.Laws.Accept.{Counted, count_within}
use Rattle.book_bytes.specs.declared.layout.Layout as Code
use Rattle.book_bytes.specs.Layout.{layout_as}
use Rattle.book_laws.specs.Layout.{Layout, record_length, rbk1}
use Rattle.list_text.specs.Listing.{record_lines, book_line, refusal_line, listing_for, listing_of}
use Rattle.list_text.proofs.list_into.Goals as goal

some_number : (r : Refusal) → eqb (number_of r) 0 ≡ false
some_number Length = refl
some_number Mark = refl
some_number Trailer = refl
some_number (Disagrees k) = refl
some_number Space = refl
some_number Full = refl
some_number Index = refl

module _ (b : List ℕ) (used : ℕ) where
  of_refusal : (r : Refusal) → acceptance_of (Err r) ≡ accept_of b used → refusal_line (number_of r) (named_by r) ≡ listing_of b used
  unfolding listing_of listing_for unaccepted
  of_refusal r is = sym (simp (some_number r)) ∙ ap (listing_for (layout_of b used) b) is

  -- a book that was accepted
  module _ {a : Description} (is : acceptance_of (Ok a) ≡ accept_of b used) {l : Layout} (layout_is : l ≡ layout_of b used) where
    counted : Counted l b (acceptance_of (Ok a))
    counted = rw layout_is (subst (Counted (layout_of b used) b) (sym is) (count_within (layout_of b used) b used))

    of_book : book_line a.count ++ record_lines l b a.first a.count ≡ listing_of b used
    unfolding listing_of listing_for
    of_book = ap (λ (k : Layout). listing_for k b (acceptance_of (Ok a))) layout_is ∙ ap (listing_for (layout_of b used) b) is

-- no record is shorter than one of RBK1
short_most : (l : Code.Layout) (n : ℕ) → record_length rbk1 * n ≤ record_length (layout_as l) * n
short_most Code.TheVariants.Rbk1 n = omega arith
short_most Code.TheVariants.Rbk2 n = omega arith

pub put_records-requires : goal.put_records-requires
put_records-requires c =
    let within = (counted _ _ c.in-Ok.ensures c.layout_of-layout.ensures).within in
    let short = short_most c.layout_of-layout.result c.in-Ok.accepted.count in
    (search rules, (omega (arith, within, short, c.put_line.ensures.within, ap length c.clear.ensures), within))

pub returns-in-Ok : goal.returns-in-Ok
unfolding book_line
returns-in-Ok c =
    let a = c.in-Ok.accepted in
    let lines = record_lines (layout_as c.layout_of-layout.result) c.args.book.now a.first a.count in
    let headed : c.put_line.new.out.bytes ≡ book_line a.count =
    c.put_line.ensures.text ∙ ap (λ (t : List ℕ). t ++ book_line a.count) c.clear.ensures
    in
    c.put_records.ensures.text
    ∙ ap (λ (t : List ℕ). t ++ lines) headed
    ∙ of_book _ _ c.in-Ok.ensures c.layout_of-layout.ensures

pub returns-in-Err : goal.returns-in-Err
returns-in-Err c =
    let r = c.in-Err.refusal in
    c.put_refusal.ensures.text
    ∙ ap (λ (t : List ℕ). t ++ refusal_line (number_of r) (named_by r)) c.clear.ensures
    ∙ of_refusal _ _ r c.in-Err.ensures
