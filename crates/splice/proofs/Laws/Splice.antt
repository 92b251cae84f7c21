-- Laws of `splice`: its length, what stands before and after the part, a second part after the first, and a part put anew.
-- Assumes nothing.
use Rattle.std.specs.Prelude.{List, [], ◌∷◌, ◌++◌, ◌≡◌, ℕ, ◌+◌, ◌-◌, ◌≤◌, ◌<◌, length, get_or, take, drop, set}
use Rattle.std.proofs.Common.{append_assoc, append-nil, sym, ap, ap₂, ◌∙◌, add-zero, add-one, arith, length-append, length-drop}
use Rattle.std.proofs.Common.{take-append-drop, length-take-le, take_at, drop-drop, take-suc, take-suc-set}
use Rattle.std.proofs.lemmas.List.Edits.{sets, sets-eq}
use Rattle.std.proofs.Math.Seq.{drop-append-add, append_snoc}
use Rattle.std.proofs.lemmas.List.{set_split}
use Rattle.splice.specs.Splice.{splice}

-- what stands past the first n + k elements, the first n of which are p
past : (p d : List ℕ) (n k : ℕ) → length p ≡ n → drop (n + k) (p ++ d) ≡ drop k d
past p d n k e = ap (λ (m : ℕ). drop (m + k) (p ++ d)) (sym e) ∙ drop-append-add p d k

front_length : (l : List ℕ) (at : ℕ) (u : List ℕ) → at ≤ length l → length (take at l ++ u) ≡ at + length u
front_length l at u h = length-append (take at l) u ∙ ap (λ (k : ℕ). k + length u) (length-take-le at l h)

pub splice_length : (l : List ℕ) (at : ℕ) (u : List ℕ) → at + length u ≤ length l → length (splice l at u) ≡ length l
unfolding splice
splice_length l at u h =
    omega (arith, length-append (take at l ++ u) (drop (at + length u) l), front_length l at u (omega arith), length-drop (at + length u) l)

pub splice_before : (l : List ℕ) (at : ℕ) (u : List ℕ) → at ≤ length l → take at (splice l at u) ≡ take at l
unfolding splice
splice_before l at u h =
    ap (take at) (append_assoc (take at l) u _) ∙ take_at (take at l) (u ++ drop (at + length u) l) at (length-take-le at l h)

pub splice_past : (l : List ℕ) (at : ℕ) (u : List ℕ) (k : ℕ) → at ≤ length l →
    drop (at + length u + k) (splice l at u) ≡ drop (at + length u + k) l
unfolding splice
splice_past l at u k h =
    past (take at l ++ u) (drop (at + length u) l) (at + length u) k (front_length l at u h) ∙ drop-drop k (at + length u) l

pub splice_nothing : (l : List ℕ) (at : ℕ) → splice l at [] ≡ l
unfolding splice
splice_nothing l at =
    ap (λ (t : List ℕ). t ++ drop (at + 0) l) (append-nil (take at l))
    ∙ ap (λ (n : ℕ). take at l ++ drop n l) (add-zero at)
    ∙ take-append-drop at l

pub splice_one : (l : List ℕ) (at b : ℕ) → at < length l → set l at b ≡ splice l at (b ∷ [])
unfolding splice
splice_one l at b h = rw (add-one at, append_snoc) (set_split l at b h)

pub splice_after :
    (l : List ℕ) (at : ℕ) (u v : List ℕ) → at ≤ length l → splice (splice l at u) (at + length u) v ≡ splice l at (u ++ v)
unfolding splice
splice_after l at u v h =
    let n = at + length u in
    let p = take at l ++ u in
    let d = drop n l in
    let size : length p ≡ n = front_length l at u h in
    let total : n + length v ≡ at + length (u ++ v) = omega (arith, length-append u v) in
    ap (λ (t : List ℕ). t ++ v ++ drop (n + length v) (p ++ d)) (take_at p d n size)
    ∙ ap (λ (t : List ℕ). p ++ v ++ t) (past p d n (length v) size ∙ drop-drop (length v) n l)
    ∙ ap (λ (t : List ℕ). t ++ drop (n + length v) l) (append_assoc (take at l) u v)
    ∙ ap (λ (k : ℕ). take at l ++ (u ++ v) ++ drop k l) total

-- the first byte of a part put anew
pub splice_again :
    (l : List ℕ) (at a b : ℕ) (v : List ℕ) → at ≤ length l → splice (splice l at (a ∷ v)) at (b ∷ []) ≡ splice l at (b ∷ v)
unfolding splice
splice_again l at a b v h =
    let p = take at l in
    let d = drop (at + length (a ∷ v)) l in
    let size : length p ≡ at = length-take-le at l h in
    let apart : p ++ (a ∷ v) ++ d ≡ p ++ ((a ∷ v) ++ d) = append_assoc p (a ∷ v) d in
    ap (λ (t : List ℕ). take at t ++ (b ∷ []) ++ drop (at + 1) t) apart
    ∙ ap (λ (t : List ℕ). t ++ (b ∷ []) ++ drop (at + 1) (p ++ ((a ∷ v) ++ d))) (take_at p ((a ∷ v) ++ d) at size)
    ∙ ap (λ (t : List ℕ). p ++ (b ∷ []) ++ t) (past p ((a ∷ v) ++ d) at 1 size)
    ∙ append_assoc p (b ∷ []) (v ++ d)
    ∙ sym (append_assoc p (b ∷ v) d)

-- stores one after another
pub splice_sets : (l : List ℕ) (at : ℕ) (u : List ℕ) → at + length u ≤ length l → sets l at u ≡ splice l at u
unfolding splice
splice_sets l at u h = sets-eq u l at h

-- a part put over another one that is no longer
splice_twice :
    (l : List ℕ) (at : ℕ) (v w : List ℕ) → at ≤ length l → length v ≤ length w → splice (splice l at v) at w ≡ splice l at w
unfolding splice
splice_twice l at v w h longer =
    let reached : at + length v + (length w - length v) ≡ at + length w = omega arith in
    let after : drop (at + length w) (splice l at v) ≡ drop (at + length w) l =
    ap (λ (k : ℕ). drop k (splice l at v)) (sym reached) ∙ splice_past l at v (length w - length v) h ∙ ap (λ (k : ℕ). drop k l) reached
    in
    parts (splice l at v) l at w (splice_before l at v h) after
  where
    parts :
        (m l : List ℕ) (at : ℕ) (w : List ℕ) → take at m ≡ take at l → drop (at + length w) m ≡ drop (at + length w) l →
        splice m at w ≡ splice l at w
    parts m l at w before after = ap₂ (λ (s t : List ℕ). s ++ w ++ t) before after

-- a part put over the end of an earlier one, and no shorter than that end
pub splice_over :
    (l : List ℕ) (at : ℕ) (u v w : List ℕ) → at ≤ length l → length v ≤ length w →
    splice (splice l at (u ++ v)) (at + length u) w ≡ splice l at (u ++ w)
unfolding splice
splice_over l at u v w h longer =
    let m = splice l at u in
    let reaches : at + length u ≤ length m =
    omega (arith, length-append (take at l ++ u) (drop (at + length u) l), front_length l at u h)
    in
    ap (λ (t : List ℕ). splice t (at + length u) w) (sym (splice_after l at u v h))
    ∙ splice_twice m (at + length u) v w reaches longer
    ∙ splice_after l at u w h

-- a list copied over another from the front: one element more
pub copy_one :
    (to from : List ℕ) (i : ℕ) → i < length to → i < length from → take i to ≡ take i from →
    take (i + 1) (set to i (get_or from i 0)) ≡ take (i + 1) from
copy_one to from i to> from> so_far =
    ap (λ (k : ℕ). take k (set to i (get_or from i 0))) (add-one i)
    ∙ take-suc-set to i (get_or from i 0) to>
    ∙ ap (λ (t : List ℕ). t ++ (get_or from i 0 ∷ [])) so_far
    ∙ sym (take-suc from i 0 from>)
    ∙ ap (λ (k : ℕ). take k from) (sym (add-one i))
