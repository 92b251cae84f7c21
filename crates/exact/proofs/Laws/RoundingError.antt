-- What a rounding adds to an error: 1, or 1/t over t, or s parts in 10^12 where the rounded value is at least 10^12/s. Assumes nothing.
use Rattle.std.specs.Prelude.{ℕ, ◌+◌, ◌*◌, ◌≤◌, ◌<◌}
use Rattle.std.proofs.Common.{mul-pos, mul-le-mul_right, le_refl, arith, lit<}
use Rattle.exact.specs.Rounding.{up, down}
use Rattle.exact.specs.Fraction.{Fraction, ◌over◌, whole, ◌+F◌, ◌*F◌, ◌≤F◌, ◌<F◌}
use Rattle.exact.proofs.Laws.Fraction.{≤F_refl, ≤F_trans, <F→≤F, ≃F→≤F, over≤up, up<over, down≤over, over<down}
use Rattle.exact.specs.Error.{parts, Within}
use Rattle.exact.specs.Trillion.{trillion}
use Rattle.exact.proofs.Laws.Error.{rest_has_value, within_weaken, within_trans, within_same, within_absorb, within_times}

-- up(a/b) and down(a/b) against a/b

one_more : (x y : Fraction) {z : Fraction} → 0 < x.den → 0 < y.den → z <F x +F whole 1 → z ≤F x +F (parts 0 *F y +F whole 1)
unfolding parts ◌+F◌ ◌*F◌
one_more x y x>0 y>0 z<x+1 =
    ≤F_trans (<F→≤F z<x+1)
    (≃F→≤F
    (record {
      left = z<x+1.right;
      right = mul-pos x>0 (mul-pos (mul-pos (lit< tt) y>0) (lit< tt));
      across = omega arith;
    }))

pub within_up : (a : ℕ) {b : ℕ} → 0 < b → Within 0 (whole 1) (a over b) (whole (up a b))
within_up a {b} b>0 = record { below = over≤up a b>0; close = one_more (a over b) (whole (up a b)) b>0 (lit< tt) (up<over a b>0) }

pub within_down : (a : ℕ) {b : ℕ} → 0 < b → Within 0 (whole 1) (whole (down a b)) (a over b)
within_down a {b} b>0 = record { below = down≤over a b>0; close = one_more (whole (down a b)) (a over b) (lit< tt) b>0 (over<down a b>0) }

-- Rounding adds s parts where the rounded value is at least 10^12/s.

one_of : (s n : ℕ) → trillion ≤ s * n → whole 0 +F whole 1 ≤F parts s *F whole n
unfolding parts ◌+F◌ ◌*F◌
one_of s n h = record { left = lit< tt; right = lit< tt; across = omega arith }

pub within_round :
    (s : ℕ) {r a b : ℕ} {x : Fraction} → 0 < b → trillion ≤ s * up a b → Within r (whole 0) x (a over b) →
    Within (r + s) (whole 0) x (whole (up a b))
within_round s {r} {a} {b} b>0 large p =
    within_weaken (omega arith) (≤F_refl (whole 0) (lit< tt))
    (within_absorb s (one_of s (up a b) large) (within_trans p (within_up a b>0)))

one_of_over : (s a b : ℕ) → 0 < b → trillion * b ≤ s * a → whole 1 ≤F parts s *F (a over b)
unfolding parts ◌*F◌
one_of_over s a b b>0 h = record { left = lit< tt; right = omega arith; across = omega arith }

pub within_round_down : (s a : ℕ) {b : ℕ} → 0 < b → trillion * b ≤ s * a → Within s (whole 0) (whole (down a b)) (a over b)
within_round_down s a {b} b>0 large =
    within_weaken (omega arith) (≤F_refl (whole 0) (lit< tt)) (within_absorb s (one_of_over s a b b>0 large) (within_down a b>0))

-- Rounding up what is already off adds 1, or 1/t where the rounded values are over t.

pub within_up_after : {r a b : ℕ} {c x : Fraction} → 0 < b → Within r c x (a over b) → Within r (c +F whole 1) x (whole (up a b))
within_up_after {r} {a} {b} {c} b>0 p =
    let together = within_trans p (within_up a b>0) in
    within_weaken (omega arith) (≤F_refl (c +F whole 1) (rest_has_value together)) together

up_over : (a : ℕ) {b t : ℕ} → 0 < b → 0 < t → Within 0 (1 over t) (a over b * t) (up a b over t)
unfolding ◌*F◌
up_over a {b} {t} b>0 t>0 =
    within_same
    (record { left = mul-pos b>0 t>0; right = mul-pos b>0 t>0; across = omega arith })
    (record { left = omega arith; right = t>0; across = omega arith })
    (within_weaken (le_refl 0) (record { left = omega arith; right = t>0; across = omega arith })
    (within_times (≤F_refl (1 over t) t>0) (within_up a b>0)))

pub within_up_over :
    {r a b t : ℕ} {c x : Fraction} → 0 < b → 0 < t → Within r c x (a over b * t) →
    Within r (c +F (1 over t)) x (up a b over t)
within_up_over {r} {a} {b} {t} {c} b>0 t>0 p =
    let together = within_trans p (up_over a b>0 t>0) in
    within_weaken (omega arith) (≤F_refl (c +F (1 over t)) (rest_has_value together)) together

one_over : (s n : ℕ) {t : ℕ} → 0 < t → trillion ≤ s * n → whole 0 +F (1 over t) ≤F parts s *F (n over t)
unfolding parts ◌+F◌ ◌*F◌
one_over s n {t} t>0 h =
    record { left = omega arith; right = omega arith; across = omega (arith, mul-le-mul_right (t * t) h, mul-le-mul_right t h) }

-- the same as a relative error, where the rounded value is at least 10^12/s
pub within_round_over :
    (s : ℕ) {r a b t : ℕ} {x : Fraction} → 0 < b → 0 < t → trillion ≤ s * up a b → Within r (whole 0) x (a over b * t) →
    Within (r + s) (whole 0) x (up a b over t)
within_round_over s {a = a} {b} b>0 t>0 large p =
    within_absorb s (one_over s (up a b) t>0 large) (within_up_over b>0 t>0 p)
