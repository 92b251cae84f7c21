-- Laws of `piece`, a part of a chunk or of a line between two places: an empty one, one more byte, two that meet, the length, and what
-- follows. Assumes nothing.
use Rattle.std.specs.Prelude.{List, [], ◌∷◌, ◌++◌, ◌≡◌, ℕ, suc, ◌+◌, ◌-◌, ◌≤◌, ◌<◌, length, get_or, take, drop}
use Rattle.std.proofs.Common.{sym, ap, ◌∙◌, arith, length-drop, take-append-drop, length-take-le, take-suc, take-add, get_or-drop}
use Rattle.std.proofs.Common.{drop-drop}
use Rattle.std.proofs.Math.Nat.{sub_self}
use Rattle.text.specs.Gather.{piece}

pub piece_none : (s : List ℕ) (from : ℕ) → piece from from s ≡ []
unfolding piece
piece_none s from = ap (λ (n : ℕ). take n (drop from s)) (sub_self from)

pub piece_more : (s : List ℕ) (from i : ℕ) → from ≤ i → i < length s → piece from (i + 1) s ≡ piece from i s ++ (get_or s i 0 ∷ [])
unfolding piece
piece_more s from i h k =
    let size : i + 1 - from ≡ suc (i - from) = omega arith in
    let place : from + (i - from) ≡ i = omega arith in
    ap (λ (n : ℕ). take n (drop from s)) size
    ∙ take-suc (drop from s) (i - from) 0 (omega (arith, length-drop from s))
    ∙ ap (λ (b : ℕ). take (i - from) (drop from s) ++ (b ∷ [])) (get_or-drop from s (i - from) 0 ∙ ap (λ (n : ℕ). get_or s n 0) place)

past : (s : List ℕ) (from to : ℕ) → from ≤ to → drop (to - from) (drop from s) ≡ drop to s
past s from to h =
    let place : from + (to - from) ≡ to = omega arith in
    drop-drop (to - from) from s ∙ ap (λ (n : ℕ). drop n s) place

pub piece_join : (s : List ℕ) (from at to : ℕ) → from ≤ at → at ≤ to → piece from to s ≡ piece from at s ++ piece at to s
unfolding piece
piece_join s from at to h k =
    let size : to - from ≡ at - from + (to - at) = omega arith in
    ap (λ (n : ℕ). take n (drop from s)) size
    ∙ take-add (at - from) (to - at) (drop from s)
    ∙ ap (λ (t : List ℕ). take (at - from) (drop from s) ++ take (to - at) t) (past s from at h)

pub piece_length : (s : List ℕ) (from to : ℕ) → to ≤ length s → length (piece from to s) ≡ to - from
unfolding piece
piece_length s from to h = length-take-le (to - from) (drop from s) (omega (arith, length-drop from s))

pub piece_then : (s : List ℕ) (from to : ℕ) → from ≤ to → drop from s ≡ piece from to s ++ drop to s
unfolding piece
piece_then s from to h =
    sym (take-append-drop (to - from) (drop from s)) ∙ ap (λ (t : List ℕ). take (to - from) (drop from s) ++ t) (past s from to h)
