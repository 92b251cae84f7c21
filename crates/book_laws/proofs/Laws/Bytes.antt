-- The laws of numbers in bytes: lengths, fields one after another, and that writing and reading undo each other, for numbers of any width
-- and for bytes. Assumes nothing.
use Rattle.std.specs.Prelude.{true, ◌&&◌, List, [], ◌∷◌, ◌++◌, ◌≡◌, refl, ℕ, zero, suc, ◌+◌, ◌*◌, ◌/◌, ◌%◌, ◌^◌, ◌≤◌, ◌<◌, eqb, ltb}
use Rattle.std.specs.Prelude.{length, get_or, take, drop}
use Rattle.std.proofs.Common.{append_assoc, append-nil, sym, ap, ap₂, ◌∙◌, zero-add, suc-add, add-zero, add_assoc, pow-suc, add-one}
use Rattle.std.proofs.Common.{arith, length-append, length-drop, get_or-append-add, get_or-drop, drop-cons, drop-drop, take-add}
use Rattle.std.proofs.Common.{take-suc, ltb-true, lt-ltb, eqb-true, eq-eqb}
use Rattle.std.proofs.Math.Nat.{div-div-eq-div-mul}
use Rattle.std.proofs.Math.Seq.{append_snoc, get_or-append_seam}
use Rattle.std.proofs.lemmas.List.{get_or_at}
use Rattle.bools.proofs.Laws.Tests.{both}
use Rattle.splice.specs.Splice.{splice}
use Rattle.book_laws.specs.Bytes.{number_bytes, number_at, word_bytes, word_at, words_bytes, words_at, stands, below}

-- Lists of fields and of bytes.

pub below_at : (n : ℕ) (l : List ℕ) → 0 < n → below n l ≡ true → (i : ℕ) → get_or l i 0 < n
unfolding below
below_at n [] n>0 e i = n>0
below_at n (x ∷ xs) n>0 e zero = ltb-true x n (both (ltb x n) (below n xs) e).0
below_at n (x ∷ xs) n>0 e (suc i) = below_at n xs n>0 (both (ltb x n) (below n xs) e).1 i

pub below_append : (n : ℕ) (u v : List ℕ) → below n u ≡ true → below n v ≡ true → below n (u ++ v) ≡ true
unfolding below
below_append n [] v of-u of-v = of-v
below_append n (w ∷ u) v of-u of-v =
    let split = both (ltb w n) (below n u) of-u in
    ap₂ ◌&&◌ split.0 (below_append n u v split.1 of-v)

below_take : (n i : ℕ) (u : List ℕ) → below n u ≡ true → below n (take i u) ≡ true
unfolding below
below_take n zero u e = refl
below_take n (suc i) [] e = refl
below_take n (suc i) (w ∷ u) e =
    let split = both (ltb w n) (below n u) e in
    ap₂ ◌&&◌ split.0 (below_take n i u split.1)

below_drop : (n i : ℕ) (u : List ℕ) → below n u ≡ true → below n (drop i u) ≡ true
unfolding below
below_drop n zero u e = e
below_drop n (suc i) [] e = refl
below_drop n (suc i) (w ∷ u) e = below_drop n i u (both (ltb w n) (below n u) e).1

pub below_splice :
    (n : ℕ) (u : List ℕ) (at : ℕ) (v : List ℕ) → below n u ≡ true → below n v ≡ true → below n (splice u at v) ≡ true
unfolding splice
below_splice n u at v of-u of-v =
    below_append n (take at u ++ v) _ (below_append n (take at u) v (below_take n at u of-u) of-v) (below_drop n (at + length v) u of-u)

-- what stands from `at` on, and what stands after it
pub stand_together :
    (b : List ℕ) (at m n : ℕ) {u v : List ℕ} → u ≡ take m (drop at b) → v ≡ take n (drop (at + m) b) → u ++ v ≡ take (m + n) (drop at b)
stand_together b at m n of-u of-v =
    ap₂ ◌++◌ of-u (of-v ∙ ap (take n) (sym (drop-drop m at b))) ∙ sym (take-add m n (drop at b))

-- bytes that were written stand there
pub stands_written : (vs p q : List ℕ) → stands vs (p ++ (vs ++ q)) (length p) ≡ true
unfolding stands
stands_written [] p q = refl
stands_written (v ∷ vs) p q =
    let next : length p + 1 ≡ length (p ++ (v ∷ [])) = sym (length-append p (v ∷ [])) in
    ap₂ ◌&&◌ (eq-eqb _ v (get_or-append_seam p v (vs ++ q) 0))
    (ap₂ (stands vs) (sym (append_snoc p v (vs ++ q))) next ∙ stands_written vs (p ++ (v ∷ [])) q)

-- bytes that stand there are those of the list
pub stands_read : (vs b : List ℕ) (at : ℕ) → at + length vs ≤ length b → stands vs b at ≡ true → vs ≡ take (length vs) (drop at b)
unfolding stands
stands_read [] b at h e = refl
stands_read (v ∷ vs) b at h e =
    let split = both (eqb (get_or b at 0) v) (stands vs b (at + 1)) e in
    let next : suc at ≡ at + 1 = omega arith in
    ap₂ ◌∷◌ (sym (eqb-true (get_or b at 0) v split.0))
    (stands_read vs b (at + 1) (omega arith) split.1 ∙ ap (λ (i : ℕ). take (length vs) (drop i b)) (sym next))
    ∙ sym (ap (take (suc (length vs))) (drop-cons b at 0 (omega arith)))

-- A number of w bytes: its length, bytes in front of it, and how large it is.

pub number_bytes_length : (w n : ℕ) → length (number_bytes w n) ≡ w
unfolding number_bytes
number_bytes_length zero n = refl
number_bytes_length (suc w) n =
    length-append (number_bytes w (n / 256)) _ ∙ ap (λ (k : ℕ). k + 1) (number_bytes_length w (n / 256)) ∙ add-one w

pub number_at_skip : (p q : List ℕ) (at w : ℕ) → number_at (p ++ q) (length p + at) w ≡ number_at q at w
unfolding number_at
number_at_skip p q at zero = refl
number_at_skip p q at (suc w) =
    ap₂ (λ (n k : ℕ). n * 256 + k) (number_at_skip p q at w)
    (ap (λ (i : ℕ). get_or (p ++ q) i 0) (add_assoc (length p) at w) ∙ get_or-append-add p q (at + w) 0)

pub number_at_below : (b : List ℕ) (at w : ℕ) → below 256 b ≡ true → number_at b at w < 256 ^ w
unfolding number_at
number_at_below b at zero bytes = omega arith
number_at_below b at (suc w) bytes =
    omega (arith, pow-suc 256 w, number_at_below b at w bytes, below_at 256 b (omega arith) bytes (at + w))

-- What is written is read back, and what is read is written back.

pub number_at_written : (w n : ℕ) (q : List ℕ) → n < 256 ^ w → number_at (number_bytes w n ++ q) 0 w ≡ n
unfolding number_at number_bytes
number_at_written zero n q h = omega arith
number_at_written (suc w) n q h =
    let front = number_bytes w (n / 256) in
    let rest = n % 256 ∷ q in
    let higher : number_at (front ++ rest) 0 w ≡ n / 256 = number_at_written w (n / 256) rest (omega (arith, pow-suc 256 w)) in
    let lowest : get_or (front ++ rest) (0 + w) 0 ≡ n % 256 =
    get_or_at front (n % 256) q 0 (0 + w) (number_bytes_length w (n / 256) ∙ sym (zero-add w))
    in
    ap (λ (b : List ℕ). number_at b 0 w * 256 + get_or b (0 + w) 0) (append_snoc front (n % 256) q)
    ∙ ap₂ (λ (m k : ℕ). m * 256 + k) higher lowest
    ∙ omega arith

pub number_bytes_read :
    (b : List ℕ) (at w : ℕ) → below 256 b ≡ true → at + w ≤ length b → number_bytes w (number_at b at w) ≡ take w (drop at b)
unfolding number_at number_bytes
number_bytes_read b at zero bytes h = refl
number_bytes_read b at (suc w) bytes h =
    let m = number_at b at w in
    let k = get_or b (at + w) 0 in
    let byte : k < 256 = below_at 256 b (omega arith) bytes (at + w) in
    let higher : (m * 256 + k) / 256 ≡ m = omega arith in
    let lowest : (m * 256 + k) % 256 ≡ k = omega arith in
    ap₂ (λ (u : List ℕ) (v : ℕ). u ++ (v ∷ [])) (ap (number_bytes w) higher ∙ number_bytes_read b at w bytes (omega arith))
    (lowest ∙ sym (get_or-drop at b w 0))
    ∙ sym (take-suc (drop at b) w 0 (omega (arith, length-drop at b)))

-- a number that stands after the bytes p
pub number_at_after :
    (p : List ℕ) (w n : ℕ) (q : List ℕ) {at : ℕ} → length p ≡ at → n < 256 ^ w → number_at (p ++ (number_bytes w n ++ q)) at w ≡ n
number_at_after p w n q {at} before h =
    ap (λ (i : ℕ). number_at (p ++ (number_bytes w n ++ q)) i w) (sym before ∙ sym (add-zero (length p)))
    ∙ number_at_skip p (number_bytes w n ++ q) 0 w
    ∙ number_at_written w n q h

-- what is written are bytes
pub number_bytes_bytes : (w n : ℕ) → below 256 (number_bytes w n) ≡ true
unfolding number_bytes below
number_bytes_bytes zero n = refl
number_bytes_bytes (suc w) n =
    below_append 256 (number_bytes w (n / 256)) _ (number_bytes_bytes w (n / 256))
    (ap (λ t. t && true) (lt-ltb (n % 256) 256 (omega arith)))

-- A field as the code writes and reads it.

pub word_digits : (n : ℕ) → word_bytes n ≡ n / 16777216 % 256 ∷ n / 65536 % 256 ∷ n / 256 % 256 ∷ n % 256 ∷ []
unfolding number_bytes
word_digits n = rw (div-div-eq-div-mul n 256 256, div-div-eq-div-mul n 65536 256) refl

pub word_joined :
    (b : List ℕ) (at : ℕ) →
    get_or b at 0 * 16777216 + get_or b (at + 1) 0 * 65536 + get_or b (at + 2) 0 * 256 + get_or b (at + 3) 0 ≡ word_at b at
unfolding number_at
word_joined b at = omega (arith, ap (λ (i : ℕ). get_or b i 0) (add-zero at))

-- Fields one after another: lengths, parts, and bytes in front.

pub words_bytes_length : (ws : List ℕ) → length (words_bytes ws) ≡ 4 * length ws
unfolding words_bytes
words_bytes_length [] = refl
words_bytes_length (w ∷ ws) =
    omega (arith, length-append (word_bytes w) (words_bytes ws), number_bytes_length 4 w, words_bytes_length ws)

pub words_at_length : (b : List ℕ) (at n : ℕ) → length (words_at b at n) ≡ n
unfolding words_at
words_at_length b at zero = refl
words_at_length b at (suc n) = ap suc (words_at_length b (at + 4) n)

pub words_bytes_bytes : (ws : List ℕ) → below 256 (words_bytes ws) ≡ true
unfolding words_bytes below
words_bytes_bytes [] = refl
words_bytes_bytes (w ∷ ws) = below_append 256 (word_bytes w) (words_bytes ws) (number_bytes_bytes 4 w) (words_bytes_bytes ws)

words_bytes_append : (u v : List ℕ) → words_bytes (u ++ v) ≡ words_bytes u ++ words_bytes v
unfolding words_bytes
words_bytes_append [] v = refl
words_bytes_append (w ∷ u) v =
    ap (λ (t : List ℕ). word_bytes w ++ t) (words_bytes_append u v) ∙ sym (append_assoc (word_bytes w) (words_bytes u) (words_bytes v))

pub words_at_add : (b : List ℕ) (at m n : ℕ) → words_at b at (m + n) ≡ words_at b at m ++ words_at b (at + 4 * m) n
unfolding words_at
words_at_add b at zero n = ap₂ (λ (i k : ℕ). words_at b i k) (omega arith) (zero-add n)
words_at_add b at (suc m) n =
    ap (words_at b at) (suc-add m n)
    ∙ ap (λ (t : List ℕ). word_at b at ∷ t)
    (words_at_add b (at + 4) m n ∙ ap (λ (i : ℕ). words_at b (at + 4) m ++ words_at b i n) (omega arith))

pub words_at_skip : (p q : List ℕ) (at n : ℕ) → words_at (p ++ q) (length p + at) n ≡ words_at q at n
unfolding words_at
words_at_skip p q at zero = refl
words_at_skip p q at (suc n) =
    ap₂ ◌∷◌ (number_at_skip p q at 4) (ap (λ (i : ℕ). words_at (p ++ q) i n) (add_assoc (length p) at 4) ∙ words_at_skip p q (at + 4) n)

-- Fields that are written are read back, and fields that are read are written back.

pub words_at_written : (ws q : List ℕ) → below 4294967296 ws ≡ true → words_at (words_bytes ws ++ q) 0 (length ws) ≡ ws
unfolding below words_at words_bytes
words_at_written [] q e = refl
words_at_written (w ∷ ws) q e =
    let tests = both (ltb w 4294967296) (below 4294967296 ws) e in
    let rest = words_bytes ws ++ q in
    let second : 0 + 4 ≡ length (word_bytes w) + 0 = omega (arith, number_bytes_length 4 w) in
    ap (λ (b : List ℕ). words_at b 0 (suc (length ws))) (append_assoc (word_bytes w) (words_bytes ws) q)
    ∙ ap₂ ◌∷◌ (number_at_written 4 w rest (ltb-true w 4294967296 tests.0))
    (ap (λ (at : ℕ). words_at (word_bytes w ++ rest) at (length ws)) second
    ∙ words_at_skip (word_bytes w) rest 0 (length ws)
    ∙ words_at_written ws q tests.1)

pub words_bytes_read :
    (b : List ℕ) (at n : ℕ) → below 256 b ≡ true → at + 4 * n ≤ length b → words_bytes (words_at b at n) ≡ take (4 * n) (drop at b)
unfolding words_at words_bytes
words_bytes_read b at zero e h = refl
words_bytes_read b at (suc n) e h =
    let size : 4 + 4 * n ≡ 4 * suc n = omega arith in
    stand_together b at 4 (4 * n) (number_bytes_read b at 4 e (omega arith)) (words_bytes_read b (at + 4) n e (omega arith))
    ∙ ap (λ (k : ℕ). take k (drop at b)) size

-- Fields in a loop: one more is written after the first ones, and read after them.

pub words_bytes_next :
    (ws : List ℕ) (i : ℕ) → i < length ws →
    words_bytes (take i ws) ++ word_bytes (get_or ws i 0) ≡ words_bytes (take (i + 1) ws)
unfolding words_bytes
words_bytes_next ws i h =
    ap (λ (t : List ℕ). words_bytes (take i ws) ++ t) (sym (append-nil (word_bytes (get_or ws i 0))))
    ∙ sym (words_bytes_append (take i ws) (get_or ws i 0 ∷ []))
    ∙ ap words_bytes (sym (take-suc ws i 0 h) ∙ ap (λ (k : ℕ). take k ws) (sym (add-one i)))

pub words_at_next : (b : List ℕ) (at i : ℕ) → words_at b at i ++ (word_at b (at + 4 * i) ∷ []) ≡ words_at b at (i + 1)
unfolding words_at
words_at_next b at i = sym (words_at_add b at i 1)
