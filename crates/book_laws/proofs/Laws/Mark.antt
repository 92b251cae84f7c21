-- The mark decides of which layout a book is: where one mark stands no other of its length does. So a book that append takes or that start
-- and append leave is of the new layout, and one with the mark RBK1 is refused by 21. Assumes nothing.
use Rattle.std.specs.Prelude.{true, false, List, [], ◌∷◌, ◌≡◌, refl, ℕ, ◌+◌, ◌-◌, ◌≤◌, eqb, ltb, length, get_or}
use Rattle.std.proofs.Common.{sym, ap, ap₂, ◌∙◌, suc-ne-zero, arith, le-ltb, eqb-true}
use Rattle.bools.proofs.Laws.Tests.{both, by_outcome, either}
use Rattle.book_laws.specs.Bytes.{stands}
use Rattle.book_laws.specs.Layout.{Layout, trailer_length, rbk1}
use Rattle.book_laws.specs.Trailer.{Description, undescribed, describe_at, describe_in}
use Rattle.book_laws.specs.Start.{Written, unwritten}
use Rattle.book_laws.specs.Append.{append_in}
use Rattle.book_laws.specs.Book.{layout_of, new_layout, IsNew, append_of}
use Rattle.book_laws.proofs.Laws.Lawful.{Lawful, rbk1_lawful, rbk2_lawful}
use Rattle.book_laws.proofs.Laws.Trailer.{described, on_book_by, on_book_refused}

pub new_lawful : Lawful new_layout
new_lawful = rbk2_lawful

pub layout_lawful : (b : List ℕ) (used : ℕ) → Lawful (layout_of b used)
unfolding layout_of
layout_lawful b used = either Lawful _ rbk1_lawful rbk2_lawful

-- bytes that stand at the same place
one_mark : (u v b : List ℕ) (at : ℕ) → length u ≡ length v → stands u b at ≡ true → stands v b at ≡ true → u ≡ v
unfolding stands
one_mark [] [] b at size of-u of-v = refl
one_mark [] (w ∷ v) b at size of-u of-v = absurd (omega (arith, size))
one_mark (w ∷ u) [] b at size of-u of-v = absurd (omega (arith, size))
one_mark (w ∷ u) (y ∷ v) b at size of-u of-v =
    let first_u = both (eqb (get_or b at 0) w) (stands u b (at + 1)) of-u in
    let first_v = both (eqb (get_or b at 0) y) (stands v b (at + 1)) of-v in
    ap₂ ◌∷◌ (sym (eqb-true _ w first_u.0) ∙ eqb-true _ y first_v.0) (one_mark u v b (at + 1) (omega (arith, size)) first_u.1 first_v.1)

no_other :
    (u v b : List ℕ) (at : ℕ) → length u ≡ length v → (u ≡ v → ⊥) → stands u b at ≡ true → stands v b at ≡ false
no_other u v b at size differ of-u =
    by_outcome (λ t. t ≡ false) (stands v b at) (λ of-v. absurd (differ (one_mark u v b at size of-u of-v))) (λ none. refl)

-- a book at whose trailer another mark stands
other_mark :
    (l : Layout) (m b : List ℕ) (used : ℕ) → length m ≡ length l.mark → (m ≡ l.mark → ⊥) → used ≤ length b →
    stands m b (used - trailer_length l) ≡ true → describe_in l b used ≡ undescribed 21
unfolding describe_in describe_at
other_mark l m b used size differ within marked =
    simp (le-ltb (length b) used within, no_other m l.mark b (used - trailer_length l) size differ marked)
    (either (λ (d : Description). d ≡ undescribed 21) (ltb used (trailer_length l)) refl refl)

marks_differ : rbk1.mark ≡ new_layout.mark → ⊥
marks_differ same = omega (arith, ap (λ (m : List ℕ). get_or m 3 0) same)

module _ (b : List ℕ) (used : ℕ) where
  -- where a trailer of the new layout is right
  pub described_new : (describe_in new_layout b used).number ≡ 0 → IsNew b used
  unfolding layout_of
  described_new none =
      let marked = (described new_layout b used none).marked in
      let differ : new_layout.mark ≡ rbk1.mark → ⊥ = λ same. marks_differ (sym same) in
      simp (no_other new_layout.mark rbk1.mark b (used - trailer_length rbk1) refl differ marked)

  pub append_new : (x : List ℕ) → (append_of b used x).number ≡ 0 → IsNew b used
  unfolding append_in unwritten
  append_new x =
      on_book_by (λ (w : Written). w.number ≡ 0 → IsNew b used) new_layout b used _ _ (λ none e. described_new none)
      (λ given e. absurd (given e))

  pub append_older :
      (x : List ℕ) → used ≤ length b → stands rbk1.mark b (used - trailer_length rbk1) ≡ true →
      append_of b used x ≡ record { number = 21; used = 0; bytes = b }
  unfolding append_in unwritten undescribed
  append_older x within older =
      on_book_refused new_layout b used _ _ (sym (other_mark new_layout rbk1.mark b used refl marks_differ within older)) (suc-ne-zero 20)
