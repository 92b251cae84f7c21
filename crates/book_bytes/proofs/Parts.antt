-- What a part of a list says is what the list says there: numbers and the mark. The code reads a record or a trailer out of its own
-- bytes, and the laws speak of its place in the buffer. Also what a write into a part leaves. Assumes nothing.
use Rattle.std.proofs.Common.{Bool, List, [], ap, ap₂, append-nil, append_assoc, arith, drop, drop-cons, eqb, false, get_or, length, ltb}
use Rattle.std.proofs.Common.{ltb-false, ltb-true, not, refl, suc, sym, take, true, zero, ℕ, ◌&&◌, ◌*◌, ◌++◌, ◌+◌, ◌-◌, ◌<◌}
use Rattle.std.proofs.Common.{◌∙◌, ◌∷◌, ◌≡◌, ◌≤◌}
use Rattle.std.proofs.Math.Nat.{sub-zero}
use Rattle.std.proofs.Math.Seq.{drop-length}
use Rattle.std.proofs.lemmas.Bool.{and_parts, not-true}
use Rattle.std.proofs.lemmas.Bool.Decides.{nat_tests}
use Rattle.std.proofs.lemmas.List.{drop-drop, drop_all, ext_get_or, get_or-drop, get_or-take, get_or_past}
use borrow.Rule.Slice.PartMut.{put_mid}
use Rattle.std.specs.List.{slice_range, starts_with}
use Rattle.splice.specs.Splice.{splice}
use Rattle.book_laws.specs.Bytes.{number_at, stands, word_at, words_at}
use Rattle.book_laws.proofs.Laws.Bytes.{words_at_length}

eqb_swap : (m n : ℕ) → eqb m n ≡ eqb n m
eqb_swap m n = grind (arith, nat_tests)

-- t has the n elements of b from `at` on
pub record Part (b : List ℕ) (at n : ℕ) (t : List ℕ) : Type 0 where
  pub same : (i : ℕ) → i < n → get_or t i 0 ≡ get_or b (at + i) 0

pub part_taken : (b : List ℕ) (at n : ℕ) → Part b at n (take n (drop at b))
part_taken b at n = record { same = λ i h. get_or-take n (drop at b) i 0 h ∙ get_or-drop at b i 0 }

-- the last n bytes of the first `used`
pub part_last :
    (b : List ℕ) (used n before : ℕ) {front t : List ℕ} → front ≡ slice_range b 0 used → length front ≡ used →
    t ≡ drop (length front - n) front → before + n ≡ used → Part b before n t
part_last b used n before {front} {t} is size last within =
    let first : length front - n ≡ before = omega arith in
    record {
      same = λ i h.
          ap (λ (l : List ℕ). get_or l i 0) last
          ∙ get_or-drop (length front - n) front i 0
          ∙ ap₂ (λ (l : List ℕ) (k : ℕ). get_or l (k + i) 0) (is ∙ ap (λ (k : ℕ). take k b) (sub-zero used)) first
          ∙ get_or-take used b (before + i) 0 (omega arith);
    }

module _ (b t : List ℕ) (at n : ℕ) (part : Part b at n t) where
  pub number_in : (i w : ℕ) → i + w ≤ n → number_at t i w ≡ number_at b (at + i) w
  unfolding number_at
  number_in i zero h = refl
  number_in i (suc w) h =
      let place : at + (i + w) ≡ at + i + w = omega arith in
      ap₂ (λ (m k : ℕ). m * 256 + k) (number_in i w (omega arith))
      (part.same (i + w) (omega arith) ∙ ap (λ (k : ℕ). get_or b k 0) place)

  pub stands_in : (vs : List ℕ) (i : ℕ) → i + length vs ≤ n → stands vs t i ≡ stands vs b (at + i)
  unfolding stands
  stands_in [] i h = refl
  stands_in (v ∷ vs) i h =
      let place : at + (i + 1) ≡ at + i + 1 = omega arith in
      ap₂ ◌&&◌ (ap (λ (x : ℕ). eqb x v) (part.same i (omega arith)))
      (stands_in vs (i + 1) (omega arith) ∙ ap (stands vs b) place)

-- a part of a slice that was written over
pub put_spliced : (l : List ℕ) (at k : ℕ) {us vs : List ℕ} → us ≡ vs → length vs ≡ k → put_mid at k l us ≡ splice l at vs
unfolding splice
put_spliced l at k {us} {vs} is size =
    ap (put_mid at k l) is
    ∙ ap (λ (t : List ℕ). take at l ++ (vs ++ t)) (drop-drop k at l ∙ ap (λ (n : ℕ). drop (at + n) l) (sym size))
    ∙ sym (append_assoc (take at l) vs (drop (at + length vs) l))

-- all of it
pub splice_whole : (l vs : List ℕ) → length l ≡ length vs → splice l 0 vs ≡ vs
unfolding splice
splice_whole l vs size =
    let end : 0 + length vs ≡ length l = omega arith in
    ap (λ (n : ℕ). vs ++ drop n l) end ∙ ap (λ (t : List ℕ). vs ++ t) (drop-length l) ∙ append-nil vs

-- A list that starts with the bytes vs, none of which is zero, has them at its front. Past its end there are zeros.

unfoldable pub none_zero : List ℕ → Bool
none_zero [] = true
none_zero (v ∷ vs) = not (eqb v 0) && none_zero vs

pub starts_stands : (vs l : List ℕ) (at : ℕ) → none_zero vs ≡ true → starts_with eqb (drop at l) vs ≡ stands vs l at
unfolding stands none_zero
starts_stands [] l at given = refl
starts_stands (v ∷ vs) l at given =
    by_test (ltb at (length l)) refl (and_parts _ _ given).0 (starts_stands vs l (at + 1) (and_parts _ _ given).1)
  where
    by_test :
        (inside : Bool) → ltb at (length l) ≡ inside → not (eqb v 0) ≡ true →
        starts_with eqb (drop (at + 1) l) vs ≡ stands vs l (at + 1) →
        starts_with eqb (drop at l) (v ∷ vs) ≡ eqb (get_or l at 0) v && stands vs l (at + 1)
    by_test true t given rest =
        let next : suc at ≡ at + 1 = omega arith in
        ap (λ (t : List ℕ). starts_with eqb t (v ∷ vs)) (drop-cons l at 0 (ltb-true _ _ t))
        ∙ ap₂ ◌&&◌ (eqb_swap v (get_or l at 0)) (ap (λ (k : ℕ). starts_with eqb (drop k l) vs) next ∙ rest)
    by_test false t given rest =
        let past = ltb-false _ _ t in
        let other : eqb (get_or l at 0) v ≡ false =
        ap (λ (x : ℕ). eqb x v) (get_or_past l at 0 past) ∙ eqb_swap 0 v ∙ not-true _ given
        in
        ap (λ (t : List ℕ). starts_with eqb t (v ∷ vs)) (drop_all at l past)
        ∙ sym (ap (λ (s : Bool). s && stands vs l (at + 1)) other)

-- each of the fields that stand one after another
words_at_each : (b : List ℕ) (at n k : ℕ) → k < n → get_or (words_at b at n) k 0 ≡ word_at b (at + 4 * k)
unfolding words_at
words_at_each b at zero k h = absurd (omega arith)
words_at_each b at (suc n) zero h = ap (word_at b) (omega arith)
words_at_each b at (suc n) (suc k) h =
    let place : at + 4 + 4 * k ≡ at + 4 * suc k = omega arith in
    words_at_each b (at + 4) n k (omega arith) ∙ ap (word_at b) place

pub words_at_all :
    (b ws : List ℕ) (at n : ℕ) → length ws ≡ n → ((k : ℕ) → k < n → get_or ws k 0 ≡ word_at b (at + 4 * k)) → ws ≡ words_at b at n
words_at_all b ws at n size each =
    ext_get_or 0 ws (words_at b at n) (size ∙ sym (words_at_length b at n))
    (λ k h.
    let within : k < n = omega (arith, size) in
    each k within ∙ sym (words_at_each b at n k within))
