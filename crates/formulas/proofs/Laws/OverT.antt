-- Values over T, known to r parts in 10^12 and c units of 10^-12: how these errors pass through one rounding up, a sum, a product, and
-- k x/(b + m x). The stages whose numbers are parts in T are built of these. Assumes nothing.
use Rattle.std.specs.Prelude.{ℕ, ◌+◌, ◌*◌, ◌≤◌, ◌<◌}
use Rattle.std.proofs.Common.{le_refl, mul-pos, mul-le-mul_right, arith, lit<}
use Rattle.exact.specs.Rounding.{up}
use Rattle.exact.specs.Fraction.{Fraction, ◌over◌, whole, ◌+F◌, ◌*F◌, reciprocal, ◌/F◌, ◌≤F◌, ◌≃F◌}
use Rattle.exact.proofs.Laws.Fraction.{≃F_refl, ≤F_refl, ≤F_trans}
use Rattle.exact.specs.Error.{parts, Within}
use Rattle.exact.proofs.Laws.Error.{within_weaken, within_same, within_times, within_product, within_saturate, within_refl}
use Rattle.exact.proofs.Laws.Error.{within_absorb, within_sum}
use Rattle.exact.proofs.Laws.RoundingError.{within_up_over}
use Rattle.exact.specs.Trillion.{trillion}
use Rattle.formulas.specs.Constants.{tera}
use Rattle.formulas.proofs.Laws.LogRange.{tera>0}

-- n/T is x or above, by at most r parts in 10^12 of it and c units of 10^-12
abbrev pub Close : ℕ → ℕ → Fraction → ℕ → Type 0
Close r c x n = Within r (c over tera) x (n over tera)

pub over_at_most : {n : ℕ} (m : ℕ) → n ≤ m * trillion → n over tera ≤F whole m
unfolding tera
over_at_most m n≤ = record { left = lit< tt; right = lit< tt; across = omega arith }

-- the same upper value written otherwise, under a larger error
pub rewrite_above :
    {r c : ℕ} {d x y y' : Fraction} → y ≃F y' → d ≤F c over tera → Within r d x y → Within r (c over tera) x y'
rewrite_above y≃ d≤ p = within_weaken (le_refl _) d≤ (within_same (≃F_refl _ p.below.left) y≃ p)

-- rounding up to a whole number over T adds one unit
pub round_up : {r c a b : ℕ} {x : Fraction} → 0 < b → Within r (c over tera) x (a over b * tera) → Close r (c + 1) x (up a b)
unfolding ◌+F◌
round_up {r} {c} b>0 p =
    let errors : (c over tera) +F (1 over tera) ≤F c + 1 over tera =
    record { left = mul-pos tera>0 tera>0; right = tera>0; across = omega arith }
    in
    within_weaken (le_refl r) errors (within_up_over b>0 tera>0 p)

pub no_units : whole 0 ≤F 0 over tera
no_units = record { left = lit< tt; right = tera>0; across = omega arith }

-- up(aT/b) over T is a/b with one rounding
pub quotient_close : (a : ℕ) {b : ℕ} → 0 < b → Close 0 1 (a over b) (up (a * tera) b)
quotient_close a {b} b>0 =
    let same : a over b ≃F a * tera over b * tera = record { left = b>0; right = mul-pos b>0 tera>0; across = omega arith } in
    round_up b>0 (rewrite_above same no_units (within_refl (≤F_refl (a over b) b>0)))

pub sum_close : {r c d n m : ℕ} {x y : Fraction} → Close r c x n → Close r d y m → Close r (c + d) (x +F y) (n + m)
unfolding ◌+F◌
sum_close {c = c} {d} {n} {m} p q =
    let same : (n over tera) +F (m over tera) ≃F n + m over tera =
    record { left = mul-pos tera>0 tera>0; right = tera>0; across = omega arith }
    in
    let errors : (c over tera) +F (d over tera) ≤F c + d over tera =
    record { left = mul-pos tera>0 tera>0; right = tera>0; across = omega arith }
    in
    rewrite_above same errors (within_sum p q)

-- of values that are at most 1
pub product_close :
    {r s c d n m : ℕ} {x y : Fraction} → n ≤ trillion → m ≤ trillion → Close r c x n → Close s d y m →
    Within (r + s) (c + d over tera) (x *F y) (n * m over tera * tera)
unfolding ◌+F◌ ◌*F◌
product_close {c = c} {d} {n} {m} n≤ m≤ p q =
    let n≤1 : n over tera ≤F whole 1 = over_at_most 1 (omega arith) in
    let m≤1 : m over tera ≤F whole 1 = over_at_most 1 (omega arith) in
    let same : (n over tera) *F (m over tera) ≃F n * m over tera * tera = ≃F_refl _ (mul-pos tera>0 tera>0) in
    let errors : (c over tera) *F whole 1 +F (d over tera) *F whole 1 ≤F c + d over tera =
    record { left = omega (arith, mul-pos tera>0 tera>0); right = tera>0; across = omega arith }
    in
    rewrite_above same errors (within_product (≤F_trans q.below m≤1) n≤1 p q)

-- k x/(b + m x), where c units become at most d
pub saturate_times :
    (k b m : ℕ) {r c d n : ℕ} {x : Fraction} → 0 < b → c * k ≤ d * b → Close r c x n →
    Within r (d over tera) (whole k *F x /F (whole b +F whole m *F x)) (k * n * tera over (b * tera + m * n) * tera)
unfolding ◌+F◌ ◌*F◌ reciprocal
saturate_times k b m {r} {c} {d} {n} {x} b>0 cd p =
    let whole≤ : (a : ℕ) → whole a ≤F whole a = λ a. ≤F_refl (whole a) (lit< tt) in
    let quotient : Within r ((c over tera) /F whole b *F whole k) (x /F (whole b +F whole m *F x) *F whole k)
    ((n over tera) /F (whole b +F whole m *F (n over tera)) *F whole k) =
    within_times (whole≤ k) (within_saturate {b = whole b} {m = whole m} b>0 (whole≤ b) (whole≤ m) p)
    in
    let low>0 = quotient.below.left in
    let high>0 = quotient.below.right in
    let same_low : x /F (whole b +F whole m *F x) *F whole k ≃F whole k *F x /F (whole b +F whole m *F x) =
    record { left = low>0; right = omega (arith, low>0); across = omega arith }
    in
    let same_high :
    (n over tera) /F (whole b +F whole m *F (n over tera)) *F whole k ≃F k * n * tera over (b * tera + m * n) * tera =
    record { left = high>0; right = omega (arith, high>0); across = omega arith }
    in
    let errors : (c over tera) /F whole b *F whole k ≤F d over tera =
    record { left = omega (arith, mul-pos tera>0 b>0); right = tera>0; across = omega (arith, mul-le-mul_right tera cd) }
    in
    within_weaken (le_refl r) errors (within_same same_low same_high quotient)

-- c units are at most c parts of a value that is at least 1
pub units_absorb : {r c n : ℕ} {x : Fraction} → tera ≤ n → Close r c x n → Within (r + c) (whole 0) x (n over tera)
unfolding tera parts ◌*F◌
units_absorb {c = c} {n} n≥ p =
    within_absorb c
    (record { left = lit< tt; right = lit< tt; across = omega (arith, mul-le-mul_right (c * trillion) n≥) }) p
