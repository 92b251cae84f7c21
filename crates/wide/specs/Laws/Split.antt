-- What a division's answer says of the two roundings. Assumes nothing.
use Rattle.std.specs.Prelude.{◌≡◌, refl, ℕ, zero, suc, ◌+◌, ◌*◌, ◌/◌, ◌%◌, ◌≤◌, ◌<◌}
use Rattle.std.proofs.Common.{sym, ap, ◌∙◌, zero-le, suc-ne-zero, mul-le-mul_left, mul-le-mul_right, lt_of_mul-lt-mul_right, div-add-mod'}
use Rattle.std.proofs.Common.{mod-lt, arith, eq-eqb, ne_eqb}
use Rattle.exact.specs.Rounding.{up, down}
use Rattle.exact.proofs.Laws.Rounding.{up_only, down_only, down_close}
use Rattle.wide.specs.Split.{Split, upward}

-- what `/` and `%` answer
pub divided : (n : ℕ) {c : ℕ} → 0 < c → Split n c (n / c) (n % c)
divided n {c} c>0 = record { whole = div-add-mod' n c; below = mod-lt n c>0 }

-- and of a number whose upper limb h in base β is 0
pub divided_low : (h l β : ℕ) {c : ℕ} → h ≡ 0 → 0 < c → Split (h * β + l) c (l / c) (l % c)
divided_low h l β {c} e c>0 =
    record { whole = omega (arith, div-add-mod' l c, ap (λ (x : ℕ). x * β) e); below = mod-lt l c>0 }

pub upward_none : (q r : ℕ) → r ≡ 0 → upward q r ≡ q
unfolding upward
upward_none q r e = simp (eq-eqb r 0 e)

pub upward_some : (q r : ℕ) → (r ≡ 0 → ⊥) → upward q r ≡ q + 1
unfolding upward
upward_some q r n = simp (ne_eqb r 0 n)

pub split_down : {n c q r : ℕ} → Split n c q r → q ≡ down n c
split_down {n} {c} {q} s = sym (down_only n c q (omega arith) (omega arith))

pub split_up : {n c q r : ℕ} → Split n c q r → upward q r ≡ up n c
unfolding upward
split_up {n} {c} {q} {r = zero} s = sym (up_only n c q (omega arith) (omega arith))
split_up {n} {c} {q} {r = suc r} s =
    upward_some q (suc r) (suc-ne-zero r) ∙ sym (up_only n c (q + 1) (omega arith) (omega arith))

-- What a rounding adds to the quotient, of which rounding down adds nothing.

pub nothing_carried : (r : ℕ) → 0 ≤ r
nothing_carried r = zero-le

pub down_of_split : (n c q r : ℕ) → Split n c q r → q + 0 ≡ down n c
down_of_split n c q r s = omega (arith, split_down s)

pub up_of_split : (n c q r : ℕ) → Split n c q r → q + upward 0 r ≡ up n c
up_of_split n c q zero s = omega (arith, split_up s, upward_none 0 zero refl, upward_none q zero refl)
up_of_split n c q (suc r) s =
    omega (arith, split_up s, upward_some 0 (suc r) (suc-ne-zero r), upward_some q (suc r) (suc-ne-zero r))

pub at_most_rest : (r : ℕ) → upward 0 r ≤ r
at_most_rest zero = omega (arith, upward_none 0 zero refl)
at_most_rest (suc r) = omega (arith, upward_some 0 (suc r) (suc-ne-zero r))

-- where something is left over, one more than the quotient is at most the number
pub split_more : {n c q r : ℕ} → Split n c q r → (r ≡ 0 → ⊥) → q + 1 ≤ n
split_more {n} {c} {q} s some = omega (arith, some, mul-le-mul_left {m = 1} {n = c} q (omega arith))

-- a number of limbs h and l in base β whose quotient by c is below β has h below c
pub high_below : (h l β : ℕ) {n c : ℕ} → 0 < c → h * β + l ≡ n → down n c < β → h < c
high_below h l β {n} {c} c>0 e fits =
    lt_of_mul-lt-mul_right β {m = h} {n = c}
    (omega (arith, down_close n c>0, mul-le-mul_right {m = down n c + 1} {n = β} c (omega arith)))
