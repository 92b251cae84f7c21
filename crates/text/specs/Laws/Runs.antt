-- Laws of `run`: how a loop that passes over a run goes on by one byte, and where it stops. Assumes nothing.
use Rattle.std.specs.Prelude.{Bool, true, false, cond, List, [], ◌∷◌, ◌≡◌, ℕ, zero, suc, ◌+◌, ◌≤◌, ◌<◌, length, get_or, drop}
use Rattle.std.proofs.Common.{ap, ◌∙◌, zero-le, suc-le-suc, add-zero, add-one, arith, drop_of_length-le, length-drop, drop-cons}
use Rattle.text.specs.Words.{run, is_empty, run_end}

-- the run from i on, by whether the byte at i passes
first : (p : ℕ → Bool) (s : List ℕ) (i : ℕ) (t : Bool) → i < length s → p (get_or s i 0) ≡ t
    → run p (drop i s) ≡ cond t (suc (run p (drop (suc i) s))) 0
unfolding run
first p s i t h e =
    ap (run p) (drop-cons s i 0 h) ∙ ap (λ (u : Bool). cond u (suc (run p (drop (suc i) s))) 0) e

pub run_more : (p : ℕ → Bool) (s : List ℕ) (i : ℕ) → i < length s → p (get_or s i 0) ≡ true
    → run_end p s i ≡ run_end p s (i + 1)
run_more p s i h e =
    rw (add-one i)
    (let f : run p (drop i s) ≡ suc (run p (drop (suc i) s)) = first p s i true h e in omega arith)

pub run_stop : (p : ℕ → Bool) (s : List ℕ) (i : ℕ) → i < length s → p (get_or s i 0) ≡ false
    → run_end p s i ≡ i
run_stop p s i h e = let f : run p (drop i s) ≡ 0 = first p s i false h e in omega arith

pub run_end_past : (p : ℕ → Bool) (s : List ℕ) (i : ℕ) → length s ≤ i → run_end p s i ≡ i
unfolding run
run_end_past p s i h = ap (λ (l : List ℕ). i + run p l) (drop_of_length-le s h) ∙ add-zero i

one_more : (t : Bool) {m n : ℕ} → m ≤ n → cond t (suc m) zero ≤ suc n
one_more true h = suc-le-suc h
one_more false h = zero-le

pub run_length : (p : ℕ → Bool) (s : List ℕ) → run p s ≤ length s
unfolding run
run_length p [] = zero-le
run_length p (b ∷ s) = one_more (p b) (run_length p s)

pub run_within : (p : ℕ → Bool) (s : List ℕ) (i : ℕ) → i ≤ length s → run_end p s i ≤ length s
run_within p s i h = omega (arith, run_length p (drop i s), length-drop i s)

-- whether something is left past i
pub left : (s : List ℕ) (i : ℕ) → i < length s → is_empty (drop i s) ≡ false
unfolding is_empty
left s i h = rw (drop-cons s i 0 h)

pub nothing_left : (s : List ℕ) (i : ℕ) → length s ≤ i → is_empty (drop i s) ≡ true
unfolding is_empty
nothing_left s i h = rw (drop_of_length-le s h)
