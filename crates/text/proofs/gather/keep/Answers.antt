-- `text::gather::keep` meets its contract: as many bytes are kept as there is room for, as are asked for, and as the chunk has.
-- Assumes nothing.
use Rattle.std.proofs.Common.{List, [], ap, arith, drop, length, length-drop, length-take, refl, sym, take, take-append-drop, ℕ}
use Rattle.std.proofs.Common.{add-zero, append-nil, append_assoc, drop-drop, suc, zero, ◌++◌, ◌+◌, ◌-◌, ◌∙◌, ◌∷◌, ◌≡◌}
use Rattle.std.proofs.Math.Nat.{add-sub_cancel_left}
use borrow.Rule.Slice.PartMut.{put_mid}
use Rattle.splice.specs.Splice.{splice}
use Rattle.text.specs.Gather.{piece, kept}
use Rattle.text.proofs.gather.keep.Goals as goal
use Rattle.text.proofs.gather.keep.Goals.{After-min-count, then-count-gt0, else-count-gt0}

-- a part of the start of s is a start of s, as long as the part
start : (a b : ℕ) (s : List ℕ) → take (length (take a (take b s))) s ≡ take a (take b s)
start zero b s = refl
start (suc a) zero s = refl
start (suc a) (suc b) [] = refl
start (suc a) (suc b) (x ∷ s) = ap (λ (r : List ℕ). x ∷ r) (start a b s)

kept_start : (room from to : ℕ) (s : List ℕ) → take (length (kept room from to s)) (drop from s) ≡ kept room from to s
unfolding kept piece
kept_start room from to s = start room (to - from) (drop from s)

part_put : (l : List ℕ) (at : ℕ) (vs : List ℕ) → put_mid at (length vs) l vs ≡ splice l at vs
unfolding splice
part_put l at vs =
    sym (append_assoc (take at l) vs (drop (length vs) (drop at l)))
    ∙ ap (λ (t : List ℕ). take at l ++ vs ++ t) (drop-drop (length vs) at l)

none_put : (l : List ℕ) (at : ℕ) (vs : List ℕ) → length vs ≡ 0 → l ≡ splice l at vs
unfolding splice
none_put l at [] e =
    sym
    (ap (λ (t : List ℕ). t ++ drop (at + 0) l) (append-nil (take at l))
    ∙ ap (λ (n : ℕ). take at l ++ drop n l) (add-zero at)
    ∙ take-append-drop at l)
none_put l at (v ∷ vs) e = absurd (omega arith)

count_is : (c : After-min-count)
    → let a = c.args in
    c.min-count.result ≡ length (kept (length a.line.now - a.len) a.from a.to a.chunk.now)
unfolding kept piece
count_is c = simp (length-take, length-drop) (omega arith)

pub returns : goal.returns
unfolding splice
returns c =
    let a = c.args in
    let count = count_is (goal.at.returns c).After-min-count in
    let more = kept (length a.line.now - a.len) a.from a.to a.chunk.now in
    elim c.if-count-gt0.branch [
      | then-count-gt0 w ↦
          let size : a.from + c.min-count.result - a.from ≡ length more = add-sub_cancel_left a.from _ ∙ count in
          let room : a.len + c.min-count.result - a.len ≡ length more = add-sub_cancel_left a.len _ ∙ count in
          let copied : w.copy_from_slice.new.self ≡ more =
          w.copy_from_slice.ensures.after ∙ ap (λ (n : ℕ). take n (drop a.from a.chunk.now)) size ∙ kept_start _ a.from a.to a.chunk.now
          in
          record {
            place_is = ap (λ (n : ℕ). a.len + n) count;
            list_is =
                w.line-is
                ∙ ap (λ (n : ℕ). put_mid a.len n a.line.now w.copy_from_slice.new.self) room
                ∙ ap (put_mid a.len (length more) a.line.now) copied
                ∙ part_put a.line.now a.len more;
          }
      | else-count-gt0 w ↦
          record {
            place_is = ap (λ (n : ℕ). a.len + n) count;
            list_is = w.line-is ∙ none_put a.line.now a.len more (omega arith);
          }
    ]
