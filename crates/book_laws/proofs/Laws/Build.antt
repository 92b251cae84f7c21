-- Building a book from cases: where it fits it is not refused, and what it leaves is the book of these cases; where it is not refused, it
-- fits. Assumes nothing.
use Rattle.std.proofs.Common.{List, [], ◌∷◌, ◌++◌, append_assoc, append-nil, ℕ, ◌+◌, ◌-◌, ◌*◌, ◌≤◌, arith, le-ltb, eqb-true, ltb-false}
use Rattle.std.proofs.Common.{leb-false}
use Rattle.std.proofs.lemmas.Bool.{lt-leb}
use Rattle.std.specs.Prelude.{Bool, true, false, cond, ◌&&◌, ◌≡◌, eqb, ltb, leb}
use Rattle.std.proofs.Math.Path.{refl, sym, ap, ap₂, subst}
use Rattle.std.proofs.Common.{◌∙◌, suc-ne-zero, zero-add, mul-le-mul_left}
use Rattle.std.proofs.Math.ListN.{length, length-append}
use Rattle.std.proofs.Math.Seq.{append_snoc}
use Rattle.bools.proofs.Laws.Tests.{both, passed}
use Rattle.splice.specs.Splice.{splice}
use Rattle.splice.proofs.Laws.Splice.{splice_over}
use Rattle.book_laws.specs.Bytes.{below}
use Rattle.book_laws.specs.Layout.{Layout, record_length, trailer_length}
use Rattle.book_laws.specs.Format.{record_bytes, records_bytes, trailer_bytes}
use Rattle.book_laws.specs.Start.{Written, unwritten, start_in}
use Rattle.book_laws.specs.Append.{append_after, append_in}
use Rattle.book_laws.specs.Build.{all_cases, append_all, build_in}
use Rattle.book_laws.specs.Built.{book_bytes, used_for, built_in, FitsIn}
use Rattle.book_laws.proofs.Laws.Lawful.{Lawful}
use Rattle.book_laws.proofs.Laws.Trailer.{on_book_on}
use Rattle.book_laws.proofs.Laws.Record.{first_case, records_bytes_length, records_bytes_append}
use Rattle.book_laws.proofs.Laws.Built.{whole, now_described, trailer_bytes_length, built_length, built_described}

fits_fewer : {l : Layout} {b : List ℕ} {note n : ℕ} (m : ℕ) → m ≤ n → FitsIn l b note n → FitsIn l b note m
fits_fewer {l} m fewer fit =
    record { room = omega (arith, mul-le-mul_left (record_length l) fewer, fit.room); most = omega (arith, fit.most) }

-- Starting.

start_fits : (l : Layout) (b : List ℕ) (note : ℕ) → FitsIn l b note 0 → start_in l b note ≡ built_in l b note []
unfolding start_in built_in book_bytes records_bytes
start_fits l b note fit =
    let room : note + trailer_length l ≤ length b = omega (arith, fit.room) in
    let used_is : note + trailer_length l ≡ used_for l note 0 = omega arith in
    simp (le-ltb (length b) (note + trailer_length l) room)
    (ap (λ (u : ℕ). record { number = 0; used = u; bytes = splice b note (trailer_bytes l 0) }) used_is)

start_fitted : (l : Layout) (b : List ℕ) (note : ℕ) → (start_in l b note).number ≡ 0 → FitsIn l b note 0
unfolding start_in unwritten
start_fitted l b note e =
    let test = passed (λ (w : Written). w.number) (ltb (length b) (note + trailer_length l)) _ _ (suc-ne-zero 23) e in
    record { room = omega (arith, ltb-false (length b) (note + trailer_length l) test.0); most = omega arith }

-- One case more.

module _ {l : Layout} (lawful : Lawful l) (b : List ℕ) (note : ℕ) (xs : List (List ℕ)) (x : List ℕ) (cases : all_cases l xs ≡ true)
    (fit : FitsIn l b note (length xs)) where
  abbrev used : ℕ
  used = used_for l note (length xs)

  abbrev book : List ℕ
  book = whole l b note xs

  on_built : append_in l book used x ≡ append_after l (now_described l b note xs) book used x
  unfolding append_in
  on_built = on_book_on l book used _ _ (sym (built_described lawful b note xs cases fit)) refl

  append_fitted : (append_in l book used x).number ≡ 0 → FitsIn l b note (length xs + 1)
  unfolding append_after unwritten
  append_fitted e =
      let number : Written → ℕ = λ w. w.number in
      let after_trailer = sym (ap number on_built) ∙ e in
      let full_test = passed number (leb l.most (length xs)) (unwritten 25 book) _ (suc-ne-zero 24) after_trailer in
      let after_full = sym (ap number full_test.1) ∙ after_trailer in
      let room_test = passed number (ltb (length book) (used + record_length l)) (unwritten 24 book) _ (suc-ne-zero 23) after_full in
      record {
        room = omega (arith, ltb-false (length book) (used + record_length l) room_test.0, built_length lawful b note xs cases fit);
        most = omega (arith, leb-false l.most (length xs) full_test.0);
      }

  one_more : book_bytes l (xs ++ (x ∷ [])) ≡ records_bytes l xs ++ (record_bytes l x ++ trailer_bytes l (length xs + 1))
  unfolding book_bytes records_bytes
  one_more =
      ap₂ (λ (r : List ℕ) (n : ℕ). r ++ trailer_bytes l n) (records_bytes_append l xs (x ∷ [])) (length-append xs (x ∷ []))
      ∙ ap (λ (r : List ℕ). records_bytes l xs ++ r ++ trailer_bytes l (length xs + 1)) (append-nil (record_bytes l x))
      ∙ append_assoc (records_bytes l xs) (record_bytes l x) (trailer_bytes l (length xs + 1))

  bytes_after :
      splice book (used - trailer_length l) (record_bytes l x ++ trailer_bytes l (length xs + 1))
      ≡ splice b note (book_bytes l (xs ++ (x ∷ [])))
  unfolding book_bytes
  bytes_after =
      let more = record_bytes l x ++ trailer_bytes l (length xs + 1) in
      let place : used - trailer_length l ≡ note + length (records_bytes l xs) = omega (arith, records_bytes_length l xs cases) in
      let longer : length (trailer_bytes l (length xs)) ≤ length more =
      omega (
        arith,
        length-append (record_bytes l x) (trailer_bytes l (length xs + 1)),
        trailer_bytes_length lawful (length xs),
        trailer_bytes_length lawful (length xs + 1),
      )
      in
      ap (λ (at : ℕ). splice book at more) place
      ∙ splice_over b note (records_bytes l xs) (trailer_bytes l (length xs)) more (omega (arith, fit.room)) longer
      ∙ ap (splice b note) (sym one_more)

  append_fits : FitsIn l b note (length xs + 1) → append_in l book used x ≡ built_in l b note (xs ++ (x ∷ []))
  unfolding append_after built_in
  append_fits more =
      let not_full = lt-leb l.most (length xs) (omega (arith, more.most)) in
      let room =
      le-ltb (length book) (used + record_length l) (omega (arith, more.room, built_length lawful b note xs cases fit))
      in
      let used_is : used + record_length l ≡ used_for l note (length (xs ++ (x ∷ []))) =
      omega (arith, ap (λ (n : ℕ). record_length l * n) (length-append xs (x ∷ [])))
      in
      on_built
      ∙ simp (not_full, room)
      (ap₂ (λ (u : ℕ) (m : List ℕ). record { number = 0; used = u; bytes = m }) used_is bytes_after)

-- All cases.

pub all_cases_append :
    (l : Layout) (xs ys : List (List ℕ)) → all_cases l xs ≡ true → all_cases l ys ≡ true → all_cases l (xs ++ ys) ≡ true
unfolding all_cases
all_cases_append l [] ys of-xs of-ys = of-ys
all_cases_append l (x ∷ xs) ys of-xs of-ys =
    let split = both (eqb (length x) l.inputs && below 4294967296 x) (all_cases l xs) of-xs in
    ap₂ ◌&&◌ split.0 (all_cases_append l xs ys split.1 of-ys)

-- the first case of those that follow, after the ones that stand
one_each :
    (l : Layout) (xs : List (List ℕ)) (y : List ℕ) (ys : List (List ℕ)) → all_cases l xs ≡ true → all_cases l (y ∷ ys) ≡ true →
    all_cases l (xs ++ (y ∷ [])) ≡ true
unfolding all_cases
one_each l xs y ys of-xs of-ys =
    let first = (both (eqb (length y) l.inputs && below 4294967296 y) (all_cases l ys) of-ys).0 in
    all_cases_append l xs (y ∷ []) of-xs (ap (λ (t : Bool). t && true) first)

-- a refusal stays
append_all_none : (l : Layout) (w : Written) (ys : List (List ℕ)) → (append_all l w ys).number ≡ 0 → w.number ≡ 0
unfolding append_all
append_all_none l w [] e = e
append_all_none l w (y ∷ ys) e =
    was_none (eqb w.number 0) refl (append_all_none l (cond (eqb w.number 0) (append_in l w.bytes w.used y) w) ys e)
  where
    was_none : (none : Bool) → eqb w.number 0 ≡ none → (cond none (append_in l w.bytes w.used y) w).number ≡ 0 → w.number ≡ 0
    was_none true t e = eqb-true w.number 0 t
    was_none false t e = e

-- as many cases, with the first of those that follow counted among the ones that stand
moved_on : (xs : List (List ℕ)) (y : List ℕ) (ys : List (List ℕ)) → length xs + length (y ∷ ys) ≡ length (xs ++ (y ∷ [])) + length ys
moved_on xs y ys = omega (arith, length-append xs (y ∷ []))

module _ {l : Layout} (lawful : Lawful l) (b : List ℕ) (note : ℕ) where
  pub append_all_fits :
      (xs ys : List (List ℕ)) → all_cases l xs ≡ true → all_cases l ys ≡ true → FitsIn l b note (length xs + length ys) →
      append_all l (built_in l b note xs) ys ≡ built_in l b note (xs ++ ys)
  unfolding append_all built_in
  append_all_fits xs [] of-xs of-ys fit = ap (built_in l b note) (sym (append-nil xs))
  append_all_fits xs (y ∷ ys) of-xs of-ys fit =
      let now_fits = fits_fewer (length xs) (omega arith) fit in
      let one_fits = fits_fewer (length xs + 1) (omega arith) fit in
      ap (λ (w : Written). append_all l w ys) (append_fits lawful b note xs y of-xs now_fits one_fits)
      ∙ append_all_fits (xs ++ (y ∷ [])) ys (one_each l xs y ys of-xs of-ys) (first_case l y ys of-ys).1
      (subst (FitsIn l b note) (moved_on xs y ys) fit)
      ∙ ap (built_in l b note) (append_snoc xs y ys)

  pub append_all_fitted :
      (xs ys : List (List ℕ)) → all_cases l xs ≡ true → all_cases l ys ≡ true → FitsIn l b note (length xs) →
      (append_all l (built_in l b note xs) ys).number ≡ 0 → FitsIn l b note (length xs + length ys)
  unfolding append_all built_in
  append_all_fitted xs [] of-xs of-ys fit e = fits_fewer (length xs + 0) (omega arith) fit
  append_all_fitted xs (y ∷ ys) of-xs of-ys fit e =
      let one_fits = append_fitted lawful b note xs y of-xs fit (append_all_none l _ ys e) in
      let then_fits = subst (FitsIn l b note) (sym (length-append xs (y ∷ []))) one_fits in
      let is = append_fits lawful b note xs y of-xs fit one_fits in
      subst (FitsIn l b note) (sym (moved_on xs y ys))
      (append_all_fitted (xs ++ (y ∷ [])) ys (one_each l xs y ys of-xs of-ys) (first_case l y ys of-ys).1 then_fits
      (sym (ap (λ (w : Written). (append_all l w ys).number) is) ∙ e))

  module _ (xs : List (List ℕ)) (cases : all_cases l xs ≡ true) where
    -- a book that fits is refused by neither 24 nor 25
    pub build_in_fits : FitsIn l b note (length xs) → build_in l b note xs ≡ built_in l b note xs
    unfolding build_in all_cases
    build_in_fits fit =
        ap (λ (w : Written). append_all l w xs) (start_fits l b note (fits_fewer 0 (omega arith) fit))
        ∙ append_all_fits [] xs refl cases (subst (FitsIn l b note) (sym (zero-add (length xs))) fit)

    pub build_in_fitted : (build_in l b note xs).number ≡ 0 → FitsIn l b note (length xs)
    unfolding build_in all_cases
    build_in_fitted e =
        let fresh = start_fitted l b note (append_all_none l (start_in l b note) xs e) in
        subst (FitsIn l b note) (zero-add (length xs))
        (append_all_fitted [] xs refl cases fresh
        (sym (ap (λ (w : Written). (append_all l w xs).number) (start_fits l b note fresh)) ∙ e))
