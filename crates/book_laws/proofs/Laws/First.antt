-- Each operation on a book is refused by the first of its refusals that is given, and else answers what its page says. So what start,
-- append, read and accept do can be read off the lists of their refusals. Assumes nothing.
use Rattle.std.specs.Prelude.{Bool, not, ◌||◌, List, ◌++◌, ◌≡◌, ℕ, ◌+◌, ◌-◌, eqb, ltb, length}
use Rattle.std.proofs.Math.Bool.{true, false, cond}
use Rattle.std.proofs.Math.Path.{refl, sym, ap}
use Rattle.std.proofs.Common.{◌∙◌}
use Rattle.bools.specs.First.{or_refused}
use Rattle.bools.proofs.Laws.First.{or_refused_append}
use Rattle.splice.specs.Splice.{splice}
use Rattle.book_laws.specs.Bytes.{stands}
use Rattle.book_laws.specs.Layout.{Layout, record_length, trailer_length}
use Rattle.book_laws.specs.Format.{record_bytes, all_fields, trailer_bytes, count_at, distance_at, length_at}
use Rattle.book_laws.specs.Trailer.{Description, undescribed, wrong_trailer, describe_at, describe_in, on_book_in}
use Rattle.book_laws.specs.Record.{place_from, case_at, answer_at, rating_at, all_agree, first_disagreeing}
use Rattle.book_laws.specs.Start.{unwritten, start_in}
use Rattle.book_laws.specs.Append.{append_after, append_in}
use Rattle.book_laws.specs.Read.{unread, read_after, read_in}
use Rattle.book_laws.specs.Accept.{Acceptance, unaccepted, accept_after, accept_in}
use Rattle.book_laws.specs.Refusals.{
  start_refusals,
  trailer_of,
  trailer_refusals,
  append_refusals,
  read_refusals,
  accept_refusals,
}

pub start_by_refusals :
    (l : Layout) (b : List ℕ) (note : ℕ) →
    start_in l b note
    ≡ or_refused (λ n. unwritten n b) (start_refusals l b note)
    (record { number = 0; used = note + trailer_length l; bytes = splice b note (trailer_bytes l 0) })
unfolding or_refused start_refusals start_in
start_by_refusals l b note = refl

-- 20, 21 and 22 before what an operation does with the trailer's numbers.

module _ {A : Type 0} (refuse : ℕ → A) (go_on : Description → A) where
  abbrev by_trailer : Description → A
  by_trailer d = cond (eqb d.number 0) (go_on d) (refuse d.number)

  trailer_first :
      (given : Bool) (n : ℕ) (later : Description) {by : A} → eqb n 0 ≡ false → by_trailer later ≡ by →
      by_trailer (cond given (undescribed n) later) ≡ cond given (refuse n) by
  unfolding undescribed
  trailer_first true n later numbered e = ap (λ none. cond none (go_on (undescribed n)) (refuse n)) numbered
  trailer_first false n later numbered e = e

  either_way : (s t : Bool) (a b : A) → cond s a (cond t a b) ≡ cond (s || t) a b
  either_way true t a b = refl
  either_way false t a b = refl

  pub on_book_by_refusals :
      (l : Layout) (b : List ℕ) (used : ℕ) →
      on_book_in l b used refuse go_on ≡ or_refused refuse (trailer_refusals l b used) (go_on (trailer_of l b used))
  unfolding or_refused trailer_refusals on_book_in describe_in describe_at
  on_book_by_refusals l b used =
      let at = used - trailer_length l in
      trailer_first (ltb (length b) used) 20 _ refl
      (trailer_first (ltb used (trailer_length l)) 21 _ refl
      (trailer_first (not (stands l.mark b at)) 21 _ refl
      (trailer_first (wrong_trailer l at (count_at l b at) (distance_at l b at) (length_at l b at)) 22 _ refl refl))
      ∙ either_way (ltb used (trailer_length l)) (not (stands l.mark b at)) (refuse 21) _)

-- The operations that begin by them.

module _ (l : Layout) (b : List ℕ) (used : ℕ) where
  pub append_by_refusals :
      (x : List ℕ) →
      append_in l b used x
      ≡ or_refused (λ n. unwritten n b) (append_refusals l b used)
      (record {
        number = 0;
        used = used + record_length l;
        bytes = splice b (used - trailer_length l) (record_bytes l x ++ trailer_bytes l ((trailer_of l b used).count + 1));
      })
  unfolding or_refused append_refusals append_in append_after
  append_by_refusals x =
      on_book_by_refusals (λ n. unwritten n b) (λ e. append_after l e b used x) l b used
      ∙ sym (or_refused_append (λ n. unwritten n b) (trailer_refusals l b used) _ _)

  pub read_by_refusals :
      (index : ℕ) →
      let at = place_from l (trailer_of l b used).first index in
      read_in l b used index
      ≡ or_refused unread (read_refusals l b used index)
      (record { number = 0; fields = all_fields l (case_at l b at) (answer_at l b at) (rating_at l b at) })
  unfolding or_refused read_refusals read_in read_after
  read_by_refusals index =
      on_book_by_refusals unread (λ e. read_after l e b index) l b used
      ∙ sym (or_refused_append unread (trailer_refusals l b used) _ _)

  -- 23 names the first record that disagrees, the others none
  abbrev unaccepted_by : ℕ → Acceptance
  unaccepted_by n =
      let d = trailer_of l b used in
      unaccepted n (cond (eqb n 23) (first_disagreeing l b d.first d.count + 1) 0)

  pub accept_by_refusals :
      let d = trailer_of l b used in
      accept_in l b used
      ≡ or_refused unaccepted_by (accept_refusals l b used)
      (record { number = 0; count = d.count; note = d.first; named = 0 })
  unfolding or_refused trailer_refusals accept_refusals accept_in accept_after
  accept_by_refusals =
      let d = trailer_of l b used in
      on_book_by_refusals (λ n. unaccepted n 0) (λ e. accept_after l e b) l b used
      ∙ ap (λ (rest : Acceptance). or_refused unaccepted_by (trailer_refusals l b used) rest)
      (turned (all_agree l b d.first d.count) _ _)
    where
      turned : (all : Bool) (a r : Acceptance) → cond all a r ≡ cond (not all) r a
      turned true a r = refl
      turned false a r = refl
