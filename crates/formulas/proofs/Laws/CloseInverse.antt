-- Stages 7 and 8 divide by 1 + m q², where q is a ratio over T, rounded down: what is divided by B is known to some parts in 10^12, and
-- a q known to r parts gives 1/(1 + m q²) to twice that and m. Assumes nothing.
use Rattle.std.specs.Prelude.{ℕ, ◌+◌, ◌*◌, ◌^◌, ◌≤◌, ◌<◌}
use Rattle.std.proofs.Common.{le_refl, mul-pos, arith, lit<}
use Rattle.exact.specs.Rounding.{down}
use Rattle.exact.specs.Fraction.{Fraction, ◌over◌, whole, ◌+F◌, ◌*F◌, reciprocal, ◌/F◌, square, ◌≤F◌, ◌≃F◌}
use Rattle.exact.proofs.Laws.Fraction.{closed≤, ≃F_refl, ≤F_refl}
use Rattle.exact.specs.Error.{parts, Within}
use Rattle.exact.proofs.Laws.Error.{within_refl, within_weaken, within_trans, within_same, within_absorb, within_sum, within_times}
use Rattle.exact.proofs.Laws.Error.{within_scale, within_relative_product, within_relative_reciprocal}
use Rattle.exact.proofs.Laws.RoundingError.{within_down, within_round_down}
use Rattle.exact.specs.Trillion.{trillion}
use Rattle.formulas.specs.Constants.{tera, pi_low, IsPi}
use Rattle.formulas.specs.Reactance.{reactance, reactance*}
use Rattle.formulas.specs.Laws.Ranges.{In}
use Rattle.formulas.proofs.Laws.Ranges.{reactance_range}
use Rattle.formulas.proofs.Laws.CloseReactance.{reactance_close}

-- A ratio over T, its square rounded down, and 1 more.

reactance*_pos : {π : Fraction} {f : ℕ} → IsPi π → In 1000 6500 f → 0 < (reactance* π f).num
unfolding reactance* pi_low ◌*F◌
reactance*_pos {π} {f} p range =
    let π≠0 : 0 < π.num = omega (arith, p.at_least.across, p.at_least.right) in
    mul-pos (omega (arith, range.least)) π≠0

pub tera_th : {x : ℕ} {y : Fraction} (r : ℕ) → Within r (whole 0) (whole x) y → Within r (whole 0) (x over tera) ((1 over tera) *F y)
unfolding tera ◌*F◌
tera_th {x} {y} r p =
    let scaled = within_scale (1 over 10 ^ 12) (lit< tt) p in
    within_same (record { left = lit< tt; right = lit< tt; across = omega arith }) (≃F_refl _ scaled.below.right) scaled

-- what is divided by B, rounded down, where it is at least 10^12/s
pub over_reactance_close :
    (s n : ℕ) {π : Fraction} {f : ℕ} → IsPi π → In 1000 6500 f → trillion * reactance f ≤ s * n →
    Within (s + 40) (whole 0) (down n (reactance f) over tera) ((n over tera) /F reactance* π f)
unfolding tera ◌+F◌ ◌*F◌ reciprocal
over_reactance_close s n {π} {f} pi range large =
    let b>0 : 0 < reactance f = omega (arith, (reactance_range range).least) in
    let rounded = tera_th s (within_round_down s n b>0 large) in
    let exact = within_scale (n over 10 ^ 12) (lit< tt) (within_relative_reciprocal (reactance*_pos pi range) (reactance_close pi range)) in
    let same : (1 over 10 ^ 12) *F (n over reactance f) ≃F (n over 10 ^ 12) *F reciprocal (whole (reactance f)) =
    record { left = omega arith; right = omega arith; across = omega arith }
    in
    within_weaken (le_refl _) (closed≤ tt) (within_trans (within_same (≃F_refl _ (lit< tt)) same rounded) exact)

-- a unit over T
square_down : (q : ℕ) → Within 0 (1 over tera) (down (q * q) tera over tera) (square (q over tera))
unfolding tera ◌*F◌
square_down q =
    let scaled = within_times (≤F_refl (1 over 10 ^ 12) (lit< tt)) (within_down (q * q) {b = 10 ^ 12} (lit< tt)) in
    within_same
    (record { left = lit< tt; right = lit< tt; across = omega arith })
    (record { left = lit< tt; right = lit< tt; across = omega arith })
    scaled

-- m units over T are at most m parts of 1 + m x²
m_parts :
    (m : ℕ) (x : Fraction) → 0 < x.den →
    whole 0 +F ((1 over tera) +F whole 0) *F whole m ≤F parts m *F (whole 1 +F whole m *F square x)
unfolding tera parts ◌+F◌ ◌*F◌
m_parts m x x>0 = record { left = lit< tt; right = omega (arith, mul-pos x>0 x>0); across = omega arith }

one_plus_squares :
    (m r q : ℕ) {x : Fraction} → Within r (whole 0) (q over tera) x →
    Within (r + r + m) (whole 0) (tera + m * down (q * q) tera over tera) (whole 1 +F whole m *F square x)
unfolding tera ◌+F◌ ◌*F◌
one_plus_squares m r q {x} p =
    let x²>0 = mul-pos p.below.right p.below.right in
    let squares = within_times (≤F_refl (whole m) (lit< tt)) (within_trans (square_down q) (within_relative_product p p)) in
    let one = within_weaken {s = 0 + (r + r)} (omega arith) (≤F_refl (whole 0) (lit< tt)) (within_refl (≤F_refl (whole 1) (lit< tt))) in
    let lower : whole 1 +F (down (q * q) (10 ^ 12) over 10 ^ 12) *F whole m ≃F 10 ^ 12 + m * down (q * q) (10 ^ 12) over 10 ^ 12 =
    record { left = lit< tt; right = lit< tt; across = omega arith }
    in
    let upper : whole 1 +F square x *F whole m ≃F whole 1 +F whole m *F square x =
    record { left = omega arith; right = omega arith; across = omega arith }
    in
    within_weaken (omega arith) (≤F_refl (whole 0) (lit< tt))
    (within_absorb m (m_parts m x p.below.right) (within_same lower upper (within_sum one squares)))

-- 1/(1 + m q²)
pub inverse_close_times :
    (m r q : ℕ) {x : Fraction} → Within r (whole 0) (q over tera) x →
    Within (r + r + m) (whole 0) (reciprocal (whole 1 +F whole m *F square x)) (tera over tera + m * down (q * q) tera)
unfolding tera reciprocal
inverse_close_times m r q p = within_relative_reciprocal (omega arith) (one_plus_squares m r q p)

-- 1/(1 + q²)
pub inverse_close :
    (r q : ℕ) {x : Fraction} → Within r (whole 0) (q over tera) x →
    Within (r + r + 1) (whole 0) (reciprocal (whole 1 +F square x)) (tera over tera + down (q * q) tera)
unfolding tera reciprocal ◌+F◌ ◌*F◌
inverse_close r q p =
    let close = inverse_close_times 1 r q p in
    within_same
    (record { left = close.below.left; right = omega (arith, close.below.left); across = omega arith })
    (record { left = close.below.right; right = omega arith; across = omega arith })
    close

pub inverse_most : (x : Fraction) → 0 < x.den → reciprocal (whole 1 +F x) ≤F whole 1
unfolding ◌+F◌ reciprocal
inverse_most x x>0 = record { left = omega arith; right = lit< tt; across = omega arith }
