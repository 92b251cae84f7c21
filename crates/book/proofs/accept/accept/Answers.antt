-- `book::accept::accept` meets its contract: the trailer's refusals, 23 of the first record that disagrees, and else the count and the
-- note's length. Assumes nothing.
use Rattle.std.proofs.Common.{List, Ok, ap, arith, false, sym, true, ℕ, ◌+◌, ◌<◌, ◌∙◌, ◌≡◌}
use Rattle.std.proofs.lemmas.Result.{err_from_is_err_and}
use Rattle.book_laws.specs.Accept.{accept_after, accept_in, unaccepted}
use Rattle.book_laws.specs.Book.{accept_of, layout_of}
use Rattle.book_laws.specs.Layout.{Layout}
use Rattle.book_laws.specs.Record.{agrees, all_agree, place_from}
use Rattle.book_laws.specs.Trailer.{describe_in}
use Rattle.book_laws.proofs.Laws.Disagreeing.{disagreeing_at}
use Rattle.book_laws.proofs.Laws.Record.{all_agree_next, all_agree_none, all_agree_stop}
use Rattle.book_bytes.specs.declared.trailer.Description as Code
use Rattle.book_bytes.specs.Answers.{description_of}
use Rattle.book_bytes.specs.Refusal.{number_of}
use Rattle.book.proofs.Described.{goes_on, named_none, record_fits, refused}
use Rattle.book.proofs.accept.accept.Goals as goal

module _ (b : List ℕ) (used : ℕ) {l : Layout} (layout_is : l ≡ layout_of b used) where
  of_layout : accept_in l b used ≡ accept_of b used
  of_layout = ap (λ (k : Layout). accept_in k b used) layout_is

  module _ {d : Code.Description} (is : description_of (Ok d) ≡ describe_in l b used) where
    named :
        (i : ℕ) → i < d.count → all_agree l b d.first i ≡ true → agrees l b (place_from l d.first i) ≡ false →
        unaccepted 23 (i + 1) ≡ accept_of b used
    unfolding accept_in accept_after
    named i within so_far differing =
        let not_all = all_agree_stop l b d.first d.count i within differing in
        let first_is = disagreeing_at l b d.first d.count i within so_far differing in
        sym (goes_on l b used is _ _ ∙ simp (not_all, first_is)) ∙ of_layout

    accepted : all_agree l b d.first d.count ≡ true → record { number = 0; count = d.count; note = d.first; named = 0 } ≡ accept_of b used
    unfolding accept_in accept_after
    accepted all = sym (goes_on l b used is _ _ ∙ simp all) ∙ of_layout

pub returns-in_err-book : goal.returns-in_err-book
unfolding accept_in
returns-in_err-book c =
    let p = err_from_is_err_and c.from_residual.result c.from_residual.ensures.1 in
    let told = c.in_err-book.ensures in
    rw (p.1, p.2)
    (ap (unaccepted (number_of _)) (named_none _ _ _ _ told) ∙ sym (refused _ _ _ _ told _ _) ∙ of_layout _ _ c.layout_of-layout.ensures)

pub loop-i-init : goal.loop-i-init
loop-i-init c = all_agree_none _ _ _

pub place_from-requires : goal.place_from-requires
place_from-requires c =
    let fits = record_fits _ _ _ c.in_ok-book.ensures c.loop-i.i c.loop-i-test.true in omega (arith, fits)

pub agrees-requires : goal.agrees-requires
agrees-requires c =
    let fits = record_fits _ _ _ c.in_ok-book.ensures c.loop-i.i c.loop-i-test.true in omega (arith, fits, c.place_from.ensures)

pub returns-then-not-agrees : goal.returns-then-not-agrees
returns-then-not-agrees c =
    let differing = sym (c.agrees.ensures ∙ ap (agrees _ _) c.place_from.ensures) ∙ c.if-not-agrees.true in
    named _ _ c.layout_of-layout.ensures c.in_ok-book.ensures c.loop-i.i c.loop-i-test.true c.loop-i.invariant differing

pub loop-i-preserved : goal.loop-i-preserved
loop-i-preserved c =
    let agreed = sym (c.agrees.ensures ∙ ap (agrees _ _) c.place_from.ensures) ∙ c.if-not-agrees.false in
    all_agree_next _ _ _ c.loop-i.i c.loop-i.invariant agreed

pub returns : goal.returns
returns c =
    let end : c.loop-i.i ≡ c.in_ok-book.book.count = omega arith in
    accepted _ _ c.layout_of-layout.ensures c.in_ok-book.ensures (ap (all_agree _ _ _) (sym end) ∙ c.loop-i.invariant)
