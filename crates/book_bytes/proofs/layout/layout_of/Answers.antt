-- `book_bytes::layout::layout_of` meets its contract: the mark is looked for where a trailer would stand. Assumes nothing.
use Rattle.std.proofs.Common.{Bool, List, [], ap, ap₂, arith, drop, eqb, false, inl, inr, length, length-drop, refl, sym, take_all, true, ℕ}
use Rattle.std.proofs.Common.{◌-◌, ◌<◌, ◌∙◌, ◌≡◌, ◌⊎◌}
use Rattle.std.proofs.lemmas.List.{drop_all}
use Rattle.std.specs.List.{slice_range, starts_with}
use Rattle.book_laws.specs.Book.{layout_of}
use Rattle.book_laws.specs.Bytes.{stands}
use Rattle.book_laws.specs.Layout.{rbk1, rbk2, trailer_length}
use Rattle.book_bytes.proofs.Parts.{none_zero, starts_stands}
use Rattle.book_bytes.proofs.layout.layout_of.Goals as goal

-- the bytes from a place to the end
rest_is : (b : List ℕ) (at : ℕ) → slice_range b at (length b) ≡ drop at b
rest_is b at = take_all (length b - at) (drop at b) (omega (arith, length-drop at b))

-- of the bytes from where a trailer would stand
module _ (b : List ℕ) (used : ℕ) {at : ℕ} (at_is : at ≡ used - trailer_length rbk1) where
  mark_is : starts_with eqb (drop at b) rbk1.mark ≡ stands rbk1.mark b (used - trailer_length rbk1)
  unfolding none_zero
  mark_is = starts_stands rbk1.mark b at refl ∙ ap (stands rbk1.mark b) at_is

  -- t are these bytes, and m is the mark
  module _ (t m : List ℕ) (is : t ≡ slice_range b at (length b)) (m_is : m ≡ rbk1.mark) where
    there : (answer : Bool) → starts_with eqb t m ≡ answer → stands rbk1.mark b (used - trailer_length rbk1) ≡ answer
    there answer said = sym mark_is ∙ ap₂ (starts_with eqb) (sym (is ∙ rest_is b at)) (sym m_is) ∙ said

    marked : starts_with eqb t m ≡ true → rbk1 ≡ layout_of b used
    unfolding layout_of
    marked said = sym (simp (there true said))

    unmarked : starts_with eqb t m ≡ false → rbk2 ≡ layout_of b used
    unfolding layout_of
    unmarked said = sym (simp (there false said))

  no_bytes : (length b < at) ⊎ (length b < length b) → rbk2 ≡ layout_of b used
  no_bytes (inl past) = unmarked [] rbk1.mark (sym (rest_is b at ∙ drop_all at b (omega (arith, past)))) refl refl
  no_bytes (inr h) = absurd (omega (arith, h))

pub returns-in_default : goal.returns-in_default
returns-in_default c = no_bytes _ _ c.saturating_sub.ensures c.in_default.ensures.lookup.0

pub returns-then-starts_with : goal.returns-then-starts_with
returns-then-starts_with c =
    let rest = c.in-Some.ensures.lookup.0.2 in
    marked _ _ c.saturating_sub.ensures _ _ rest c.mark.ensures (sym c.starts_with.ensures.value ∙ c.if-starts_with.true)

pub returns-else-starts_with : goal.returns-else-starts_with
returns-else-starts_with c =
    let rest = c.in-Some.ensures.lookup.0.2 in
    unmarked _ _ c.saturating_sub.ensures _ _ rest c.mark.ensures (sym c.starts_with.ensures.value ∙ c.if-starts_with.false)
