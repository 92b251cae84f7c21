-- `keep_book::add_word` meets its contract: the blank and the word are kept one after the other, each as far as there is room, which is
-- both together as far as there is room. Assumes nothing.
use Rattle.std.proofs.Common.{List, [], ap, arith, length, refl, suc, take, take_all, zero, ℕ, ◌-◌, ◌∙◌, ◌∷◌, ◌≡◌}
use Rattle.std.proofs.Math.Nat.{sub-zero}
use Rattle.std.proofs.Math.Seq.{take-length}
use Rattle.splice.proofs.Laws.Splice.{splice_length, splice_nothing}
use Rattle.splice.specs.Put.{Put}
use Rattle.splice.proofs.Laws.Put.{put_as, put_then}
use Rattle.text.specs.Gather.{piece, kept}
use Rattle.keep_book.specs.Keeping.{next_word}
use Rattle.keep_book.proofs.add_word.Goals as goal

whole_kept : (room : ℕ) (w : List ℕ) → kept room 0 (length w) w ≡ take room w
unfolding kept piece
whole_kept room w = ap (λ (n : ℕ). take room (take n w)) (sub-zero (length w)) ∙ ap (take room) (take-length w)

module _ (b w : List ℕ) (at : ℕ) {m n : List ℕ} {p r : ℕ} where
  no_room : length b - at ≡ 0 → Put b at (kept 0 0 1 (32 ∷ [])) m p → Put m p (take (length m - p) w) n r → Put b at [] n r
  unfolding kept
  no_room e f g =
      let same : m ≡ b = f.list_is ∙ splice_nothing b at in
      let none : length m - p ≡ 0 = omega (arith, ap length same) in
      let nothing = put_as m p (ap (λ (k : ℕ). take k w) none) g in
      record { place_is = omega (arith, nothing.place_is); list_is = nothing.list_is ∙ splice_nothing m p ∙ f.list_is }

  some_room : (k : ℕ) → length b - at ≡ suc k → Put b at (kept (suc k) 0 1 (32 ∷ [])) m p → Put m p (take (length m - p) w) n r
      → Put b at (32 ∷ take k w) n r
  unfolding kept piece
  some_room k e f g =
      let blank = put_as b at (take_all (suc k) (32 ∷ []) (omega arith)) f in
      let long = ap length blank.list_is ∙ splice_length b at (32 ∷ []) (omega arith) in
      let left : length m - p ≡ k = omega (arith, long, blank.place_is) in
      put_then b at (32 ∷ []) (take k w) (omega arith) blank (put_as m p (ap (λ (j : ℕ). take j w) left) g)

  both_kept : Put b at (kept (length b - at) 0 1 (32 ∷ [])) m p → Put m p (take (length m - p) w) n r
      → Put b at (take (length b - at) (32 ∷ w)) n r
  both_kept f g = go (length b - at) refl f
    where
      go : (room : ℕ) → length b - at ≡ room → Put b at (kept room 0 1 (32 ∷ [])) m p → Put b at (take room (32 ∷ w)) n r
      go zero e h = no_room e h g
      go (suc k) e h = some_room k e h g

pub returns-then-first : goal.returns-then-first
unfolding next_word
returns-then-first c =
    let first = c.if-first.true in
    simp first (put_as _ _ (whole_kept _ _) c.keep.ensures)

pub returns : goal.returns
unfolding next_word
returns c =
    let later = c.if-first.false in
    simp later (both_kept _ _ _ c.keep-from.ensures (put_as _ _ (whole_kept _ _) c.keep-2.ensures))
