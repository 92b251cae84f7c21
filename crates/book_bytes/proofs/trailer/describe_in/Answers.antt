-- `book_bytes::trailer::describe_in` meets its contract: 20 and 21 for too few bytes, 21 for another mark, 22 for another field, and else
-- what the trailer says. Assumes nothing.
use Rattle.std.specs.List.{slice_range, starts_with}
use Rattle.std.proofs.Common.{List, add-zero, ap, arith, drop, eqb, false, inl, inr, length, le-ltb, lt-ltb, sym, true, ℕ}
use Rattle.std.proofs.Common.{◌*◌, ◌+◌, ◌-◌, ◌<◌, ◌∙◌, ◌≡◌, ◌≤◌, ◌⊎◌}
use Rattle.book_laws.specs.Bytes.{number_at, stands, word_at}
use Rattle.book_laws.specs.Format.{count_at, distance_at, length_at}
use Rattle.book_laws.specs.Layout as Spec
use Rattle.book_laws.specs.Layout.{trailer_length}
use Rattle.book_laws.specs.Trailer.{describe_at, describe_in, undescribed, wrong_trailer}
use Rattle.book_laws.proofs.Laws.Trailer.{right}
use Rattle.book_bytes.specs.declared.layout.Layout as Code
use Rattle.book_bytes.specs.Layout.{layout_as}
use Rattle.book_bytes.proofs.Layouts.{lawful_of, mark_not_zero, width_is}
use Rattle.book_bytes.proofs.Parts.{Part, number_in, part_last, stands_in, starts_stands}
use Rattle.book_bytes.proofs.trailer.describe_in.Goals as goal

module _ (code : Code.Layout) where
  abbrev l : Spec.Layout
  l = layout_as code

  module _ (b : List ℕ) (used : ℕ) where
    too_long : length b < used → undescribed 20 ≡ describe_in l b used
    unfolding describe_in
    too_long h = sym (simp (lt-ltb _ _ h))

    too_short : used ≤ length b → used < 16 → undescribed 21 ≡ describe_in l b used
    unfolding describe_in
    too_short within h = sym (simp (le-ltb _ _ within, lt-ltb used (trailer_length l) (omega (arith, h, width_is code))))

  -- the bytes t end the book
  module _ (b : List ℕ) (used before : ℕ) {book t : List ℕ}
      (found : (0 ≤ used) × (used ≤ length b) × (book ≡ slice_range b 0 used) × (length book + 0 ≡ used))
      (t_is : t ≡ drop (length book - 16) book) (end : before + 16 ≡ length book) where
    part : Part b before 16 t
    part = part_last b used 16 before found.2 (omega (arith, found)) t_is (omega (arith, found))

    mark_is : {m : List ℕ} → m ≡ l.mark → starts_with eqb t m ≡ stands l.mark b before
    mark_is is =
        ap (starts_with eqb t) is
        ∙ starts_stands l.mark t 0 (mark_not_zero code)
        ∙ stands_in b t before 16 part l.mark 0 (omega (arith, (lawful_of code).mark_length))
        ∙ ap (stands l.mark b) (add-zero before)

    at_end : describe_at l b before ≡ describe_in l b used
    unfolding describe_in
    at_end =
        let width = width_is code in
        let at_is : before ≡ used - trailer_length l = omega (arith, found, width) in
        let long = le-ltb used (trailer_length l) (omega (arith, found, width)) in
        ap (describe_at l b) at_is ∙ sym (simp (le-ltb _ _ found.1, long))

    unmarked : {m : List ℕ} → m ≡ l.mark → starts_with eqb t m ≡ false → undescribed 21 ≡ describe_in l b used
    unfolding describe_at
    unmarked is other = sym (simp (sym (mark_is is) ∙ other)) ∙ at_end

    -- the fields as they were read, in the trailer's test
    module _ {m : List ℕ} {count distance size : ℕ} (is : m ≡ l.mark) (marked : starts_with eqb t m ≡ true) (count_is : count ≡ word_at t 4)
        (distance_is : distance ≡ word_at t 8) (size_is : size ≡ word_at t 12) where
      count_there : count ≡ count_at l b before
      count_there =
          count_is
          ∙ number_in b t before 16 part 4 4 (omega arith)
          ∙ ap (λ (w : ℕ). number_at b (before + 4) w) (sym (width_is code))

      distance_there : distance ≡ distance_at l b before
      distance_there =
          distance_is
          ∙ number_in b t before 16 part 8 4 (omega arith)
          ∙ ap (λ (w : ℕ). number_at b (before + (4 + w)) w) (sym (width_is code))

      size_there : size ≡ length_at l b before
      size_there =
          size_is
          ∙ number_in b t before 16 part 12 4 (omega arith)
          ∙ ap (λ (w : ℕ). word_at b (before + (4 + 2 * w))) (sym (width_is code))

      wrong : wrong_trailer l before count distance size ≡ true → undescribed 22 ≡ describe_in l b used
      unfolding describe_at
      wrong test =
          let there : undescribed 22 ≡ describe_at l b before =
          rw (← count_there, ← distance_there, ← size_there) (sym (simp (sym (mark_is is) ∙ marked, test)))
          in
          there ∙ at_end

      sound :
          wrong_trailer l before count distance size ≡ false →
          record { number = 0; count = count; first = before - distance } ≡ describe_in l b used
      unfolding describe_at
      sound test =
          let there : record { number = 0; count = count; first = before - distance } ≡ describe_at l b before =
          rw (← count_there, ← distance_there, ← size_there) (sym (simp (sym (mark_is is) ∙ marked, test)))
          in
          there ∙ at_end

no_part : (n used : ℕ) → (used < 0) ⊎ (n < used) → n < used
no_part n used (inl h) = absurd (omega arith)
no_part n used (inr h) = h

pub returns-in_default : goal.returns-in_default
returns-in_default c = too_long _ _ _ (no_part _ _ c.in_default.ensures.lookup.0)

pub returns-in_default-split_last_chunk : goal.returns-in_default-split_last_chunk
returns-in_default-split_last_chunk c =
    let book = c.in-Some.ensures.lookup.0 in
    too_short _ _ _ book.1 (omega (arith, book, c.in_default-split_last_chunk.ensures.cases))

pub returns-then-not-starts_with : goal.returns-then-not-starts_with
returns-then-not-starts_with c =
    let last = c.in-Some-split_last_chunk.ensures.cases in
    unmarked _ _ _ _ c.in-Some.ensures.lookup.0 last.1 last.2 c.mark.ensures (sym c.starts_with.ensures.value ∙ c.if-not-starts_with.true)

pub returns-then-wrong_trailer : goal.returns-then-wrong_trailer
returns-then-wrong_trailer c =
    let last = c.in-Some-split_last_chunk.ensures.cases in
    wrong _ _ _ _ c.in-Some.ensures.lookup.0 last.1 last.2 c.mark.ensures (sym c.starts_with.ensures.value ∙ c.if-not-starts_with.false)
    c.word_at-count.ensures c.word_at-distance.ensures c.word_at-length.ensures (sym c.wrong_trailer.ensures ∙ c.if-wrong_trailer.true)

pub overflow_sub-result : goal.overflow_sub-result
overflow_sub-result c = (right (layout_as c.args.layout) _ _ _ _ (sym c.wrong_trailer.ensures ∙ c.if-wrong_trailer.false)).before

pub returns : goal.returns
returns c =
    let last = c.in-Some-split_last_chunk.ensures.cases in
    sound _ _ _ _ c.in-Some.ensures.lookup.0 last.1 last.2 c.mark.ensures (sym c.starts_with.ensures.value ∙ c.if-not-starts_with.false)
    c.word_at-count.ensures c.word_at-distance.ensures c.word_at-length.ensures (sym c.wrong_trailer.ensures ∙ c.if-wrong_trailer.false)
