-- The arithmetic of long division with digits of 32 bits: one digit that is guessed and corrected, two digits made one
-- quotient, and numbers shifted to bring the divisor's top bit up. Assumes nothing.
use Rattle.std.proofs.Common.{◌≡◌, sym, ap, subst, ℕ, zero, suc, zero-le, ◌+◌, ◌-◌, ◌*◌, ◌/◌, ◌%◌, ◌^◌, ◌≤◌, ◌<◌, sub-add_cancel}
use Rattle.std.proofs.Common.{mul-le-mul, mul-le-mul_right, mul-lt-mul_of_pos_right, le_of_mul-le-mul_right, lt_of_mul-lt-mul_right}
use Rattle.std.proofs.Common.{mod-lt, div-add-mod', arith}
use Rattle.std.proofs.Math.Nat.{div-eq_of_eq-mul_left}
use Rattle.std.proofs.Math.Decide.{dec_le}
use Rattle.wide.specs.Split.{Split}
use Rattle.wide.specs.Laws.Ranges.{DigitRanges, IsRemaining}

-- The guess for the digit of u·2^32 + d over v is q = u / upper v. What it leaves of the number is `have`, before q times
-- the lower half of v is taken off, which is `owed`.

abbrev pub upper : ℕ → ℕ
upper v = v / 4294967296

abbrev pub have : ℕ → ℕ → ℕ → ℕ
have u d v = u % upper v * 4294967296 + d

abbrev pub owed : ℕ → ℕ → ℕ
owed u v = u / upper v * (v % 4294967296)

module _ (u d v : ℕ) (pre : DigitRanges u d v) where
  balance : u / upper v * v + have u d v ≡ u * 2 ^ 32 + d + owed u v
  balance =
      omega (
        arith,
        ap (λ (x : ℕ). u / upper v * x) (div-add-mod' v 4294967296),
        ap (λ (x : ℕ). x * 4294967296) (div-add-mod' u (upper v)),
      )

  pub have_below : have u d v < v
  have_below = omega (arith, mod-lt u {m = upper v} (omega arith))

  -- the guess is at most 2^32 + 1, since u is below v and the upper half of v has its top bit set
  pub owed_fits : owed u v < 2 ^ 64
  owed_fits =
      let guess : u / upper v < 4294967298 =
      lt_of_mul-lt-mul_right (upper v) {m = u / upper v} {n = 4294967298} (omega (arith, div-add-mod' u (upper v))) in
      omega (arith, mul-le-mul {n₁ = u / upper v} {m₁ = v % 4294967296} {n₂ = 4294967297} {m₂ = 4294967295} (omega arith) (omega arith))

  -- the digit is k below the guess, where k times v makes up for what is missing
  pub digit_is : (k : ℕ) {q r : ℕ} → q + k ≡ u / upper v → r + owed u v ≡ k * v + have u d v → r < v →
      Split (u * 2 ^ 32 + d) v q r
  digit_is k {q} guess rest r<v =
      record { whole = omega (arith, balance, ap (λ (x : ℕ). x * v) guess); below = r<v }

  -- and it is more than k below, where more than k times v is missing
  pub more_than : (k : ℕ) → k * v + have u d v < owed u v → k < u / upper v
  more_than k h = lt_of_mul-lt-mul_right v {m = k} {n = u / upper v} (omega (arith, balance))

  -- so 1 can be taken off the guess where anything is missing
  pub one_off : (k : ℕ) → k ≤ 1 → k ≤ owed u v - have u d v → k ≤ u / upper v
  one_off zero h some = zero-le
  one_off (suc k) h some = omega (arith, more_than 0 (omega arith))

  -- and the digit is that much below the guess, where no more than v is missing
  pub near_guess : (k r : ℕ) → k ≡ 1 - (1 - (owed u v - have u d v)) → owed u v ≤ have u d v + v →
      IsRemaining (have u d v) (owed u v) v r →
      Split (u * 2 ^ 32 + d) v (u / upper v - k) r
  near_guess k r sign most rest = either (dec_le (owed u v) (have u d v))
    where
      either : Dec (owed u v ≤ have u d v) → Split (u * 2 ^ 32 + d) v (u / upper v - k) r
      either (yes h) = digit_is 0 (omega arith) (omega (arith, rest.enough h)) (omega (arith, rest.enough h, have_below))
      either (no f) =
          let more : have u d v < owed u v = omega (arith, f) in
          digit_is 1 (omega (arith, more_than 0 (omega arith))) (omega (arith, rest.short more)) (omega (arith, rest.short more))

-- two digits are one quotient
pub two_digits : (l B : ℕ) {n v q r q' r' : ℕ} → Split n v q r → Split (r * B + l) v q' r' → Split (n * B + l) v (q * B + q') r'
two_digits l B first second =
    record { whole = omega (arith, ap (λ (x : ℕ). x * B) first.whole); below = second.below }

-- a number and a divisor that are both multiplied by p: the quotient stays, and so does the rest but for p
unscaled : {n c q r : ℕ} (p : ℕ) → 0 < p → Split (n * p) (c * p) q r → Split n c q (r / p)
unscaled {n} {c} {q} {r} p p>0 s =
    let most : q * c ≤ n = le_of_mul-le-mul_right {m = q * c} {n = n} {k = p} (omega arith) p>0 in
    let rest : (n - q * c) * p ≡ r = omega (arith, ap (λ (x : ℕ). x * p) (sub-add_cancel most)) in
    let shifted : r / p ≡ n - q * c = div-eq_of_eq-mul_left p>0 (sym rest) in
    record {
      whole = omega arith;
      below = lt_of_mul-lt-mul_right p {m = r / p} {n = c} (omega (arith, ap (λ (x : ℕ). x * p) shifted));
    }

-- the quotient fits one limb where the upper limb is below the divisor
pub one_limb : (h l : ℕ) {c q r β : ℕ} → h < c → l < β → Split (h * β + l) c q r → q < β
one_limb h l {c} {q} {r} {β} h<c l<β s =
    lt_of_mul-lt-mul_right c {m = q} {n = β} (omega (arith, mul-le-mul_right {m = h + 1} {n = c} β (omega arith)))

-- h·β + l shifted by p, as two limbs
pub shifted_is : (h l p β : ℕ) → (h * p + l * p / β) * β + l * p % β ≡ (h * β + l) * p
shifted_is h l p β = omega (arith, div-add-mod' (l * p) β)

-- and the upper one stays below the shifted divisor
pub shifted_below : (h l c p β : ℕ) → 0 < p → h < c → l < β → h * p + l * p / β < c * p
shifted_below h l c p β p>0 h<c l<β =
    lt_of_mul-lt-mul_right β {m = h * p + l * p / β} {n = c * p}
    (omega (
      arith,
      div-add-mod' (l * p) β,
      mul-lt-mul_of_pos_right l<β p>0,
      mul-le-mul_right {m = (h + 1) * p} {n = c * p} β (mul-le-mul_right {m = h + 1} {n = c} p (omega arith)),
    ))

-- the number (h, l) and the divisor c, shifted by p, are (u, k) and v; the shifted number is divided in two digits
pub long_is : (h l c p u k : ℕ) {v q r q' r' : ℕ} → 0 < p → u * 2 ^ 64 + k ≡ (h * 2 ^ 64 + l) * p → v ≡ c * p →
    Split (u * 2 ^ 32 + k / 4294967296) v q r → Split (r * 2 ^ 32 + k % 4294967296) v q' r' →
    Split (h * 2 ^ 64 + l) c (q * 4294967296 + q') (r' / p)
long_is h l c p u k {v} {q} {r} {q'} {r'} p>0 number divisor first second =
    let digits : ℕ = (u * 2 ^ 32 + k / 4294967296) * 2 ^ 32 + k % 4294967296 in
    let same : digits ≡ (h * 2 ^ 64 + l) * p = omega arith in
    unscaled p p>0
    (subst (λ (n : ℕ). Split n (c * p) (q * 4294967296 + q') r') same
    (subst (λ (d : ℕ). Split digits d (q * 4294967296 + q') r') divisor (two_digits (k % 4294967296) (2 ^ 32) first second)))
