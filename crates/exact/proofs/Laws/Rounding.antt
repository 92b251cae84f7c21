-- The laws of up(a/b) and down(a/b) that everything else uses: up(a/b) is the only q with a ≤ q·b < a + b, and down(a/b) the only q
-- with q·b ≤ a < q·b + b. Assumes nothing.
use Rattle.std.specs.Prelude.{◌≡◌, refl, ℕ, ◌+◌, ◌-◌, ◌*◌, ◌/◌, ◌≤◌, ◌<◌}
use Rattle.std.proofs.Common.{sym, le_refl, le_trans, mul-le-mul_right, lt_of_mul-lt-mul_right, le_of_mul-le-mul_right, div-mul-le_self}
use Rattle.std.proofs.Common.{arith}
use Rattle.std.proofs.Math.Nat.{div-eq_of_lt-le, lt-div-mul-add, div-div-eq-div-mul, mul-le-mul_left, mul-lt-mul_of_pos_left}
use Rattle.exact.specs.Rounding.{up, down}

-- How code computes them.

pub up_code : (a b : ℕ) → up a b ≡ (a + (b - 1)) / b
unfolding up
up_code a b = refl

pub down_code : (a b : ℕ) → down a b ≡ a / b
unfolding down
down_code a b = refl

-- What each is.

pub up_above : (a : ℕ) {b : ℕ} → 0 < b → a ≤ up a b * b
unfolding up
up_above a {b} b>0 = omega (arith, lt-div-mul-add {a = a + (b - 1)} b>0)

pub up_close : (a : ℕ) {b : ℕ} → 0 < b → up a b * b < a + b
unfolding up
up_close a {b} b>0 = omega (arith, div-mul-le_self (a + (b - 1)) b)

pub up_only : (a b q : ℕ) → a ≤ q * b → q * b < a + b → up a b ≡ q
unfolding up
up_only a b q above close = div-eq_of_lt-le b (omega arith) (omega arith)

pub down_below : (a b : ℕ) → down a b * b ≤ a
unfolding down
down_below a b = div-mul-le_self a b

pub down_close : (a : ℕ) {b : ℕ} → 0 < b → a < down a b * b + b
unfolding down
down_close a b>0 = lt-div-mul-add b>0

pub down_only : (a b q : ℕ) → q * b ≤ a → a < q * b + b → down a b ≡ q
unfolding down
down_only a b q below close = div-eq_of_lt-le b below (omega arith)

-- A whole number k is at least a/b when it is at least up(a/b), and at most a/b when it is at most down(a/b).

pub up_least : (a k : ℕ) {b : ℕ} → 0 < b → a ≤ k * b → up a b ≤ k
up_least a k {b} b>0 h = omega (arith, lt_of_mul-lt-mul_right b {m = up a b} {n = k + 1} (omega (arith, up_close a b>0)))

pub down_most : (a k : ℕ) {b : ℕ} → 0 < b → k * b ≤ a → k ≤ down a b
down_most a k {b} b>0 h = omega (arith, lt_of_mul-lt-mul_right b {m = k} {n = down a b + 1} (omega (arith, down_close a b>0)))

-- A whole number less than 1 above a/b is at most up(a/b), and one less than 1 below it is at least down(a/b).

pub up_least_below : (a k : ℕ) {b : ℕ} → 0 < b → k * b < a + b → k ≤ up a b
up_least_below a k {b} b>0 h = omega (arith, lt_of_mul-lt-mul_right b {m = k} {n = up a b + 1} (omega (arith, up_above a b>0)))

pub down_most_above : (a k : ℕ) {b : ℕ} → 0 < b → a < k * b + b → down a b ≤ k
down_most_above a k {b} b>0 h = omega (arith, lt_of_mul-lt-mul_right b {m = down a b} {n = k + 1} (omega (arith, down_below a b)))

-- A larger fraction is not rounded to less: a/b ≤ c/d, written a·d ≤ c·b.

pub up_mono : (a c : ℕ) {b d : ℕ} → 0 < b → 0 < d → a * d ≤ c * b → up a b ≤ up c d
up_mono a c {b} {d} b>0 d>0 h =
    up_least a (up c d) b>0
    (le_of_mul-le-mul_right {k = d} (omega (arith, mul-le-mul_right b (up_above c d>0))) d>0)

pub down_mono : (a c : ℕ) {b d : ℕ} → 0 < b → 0 < d → a * d ≤ c * b → down a b ≤ down c d
down_mono a c {b} {d} b>0 d>0 h =
    down_most c (down a b) d>0
    (le_of_mul-le-mul_right {k = b} (omega (arith, mul-le-mul_right d (down_below a b))) b>0)

-- What divides is not rounded, and what leaves a rest goes to the next whole number.

pub up_exact : (q : ℕ) {b : ℕ} → 0 < b → up (q * b) b ≡ q
up_exact q {b} b>0 = up_only (q * b) b q (le_refl (q * b)) (omega arith)

pub down_exact : (q : ℕ) {b : ℕ} → 0 < b → down (q * b) b ≡ q
down_exact q {b} b>0 = down_only (q * b) b q (le_refl (q * b)) (omega arith)

pub up_rest : (q : ℕ) {r b : ℕ} → 0 < r → r < b → up (q * b + r) b ≡ q + 1
up_rest q {r} {b} r>0 r<b = up_only (q * b + r) b (q + 1) (omega arith) (omega arith)

pub down_rest : (q : ℕ) {r b : ℕ} → r < b → down (q * b + r) b ≡ q
down_rest q {r} {b} r<b = down_only (q * b + r) b q (omega arith) (omega arith)

pub down_le_up : (a : ℕ) {b : ℕ} → 0 < b → down a b ≤ up a b
down_le_up a {b} b>0 = le_of_mul-le-mul_right {k = b} (le_trans (down_below a b) (up_above a b>0)) b>0

pub up_le_suc_down : (a : ℕ) {b : ℕ} → 0 < b → up a b ≤ down a b + 1
up_le_suc_down a b>0 = up_least a (down a _ + 1) b>0 (omega (arith, down_close a b>0))

pub up_pos : {a b : ℕ} → 0 < a → 0 < b → 0 < up a b
up_pos {a} {b} a>0 b>0 = lt_of_mul-lt-mul_right b {m = 0} {n = up a b} (omega (arith, up_above a b>0))

-- Two roundings the same way are one, by the product of the divisors.

pub up_up : (x : ℕ) {a b : ℕ} → 0 < a → 0 < b → up (up x a) b ≡ up x (a * b)
up_up x {a} {b} a>0 b>0 =
    let above : up x a * a ≤ up (up x a) b * b * a = mul-le-mul_right a (up_above (up x a) b>0) in
    let close : (up (up x a) b * b + 1) * a ≤ (up x a + b) * a = mul-le-mul_right a (omega (arith, up_close (up x a) b>0)) in
    sym (up_only x (a * b) (up (up x a) b) (omega (arith, up_above x a>0)) (omega (arith, up_close x a>0)))

-- what multiplies both is left out
pub up_scaled : (k a : ℕ) {b : ℕ} → 0 < k → 0 < b → up (k * a) (k * b) ≡ up a b
up_scaled k a {b} k>0 b>0 =
    let above : k * a ≤ k * (up a b * b) = mul-le-mul_left k (up_above a b>0) in
    let close : k * (up a b * b) < k * (a + b) = mul-lt-mul_of_pos_left (up_close a b>0) k>0 in
    up_only (k * a) (k * b) (up a b) (omega arith) (omega arith)

pub down_down : (x a b : ℕ) → down (down x a) b ≡ down x (a * b)
unfolding down
down_down x a b = div-div-eq-div-mul x a b
