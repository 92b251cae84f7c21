-- The laws of fractions: their orders, that sums, products and reciprocals keep them, and that up(a/b) and down(a/b) lie within 1
-- of a/b. Assumes nothing.
use Rattle.std.specs.Prelude.{Bool, true, false, ◌&&◌, ◌≡◌, refl, ℕ, ◌+◌, ◌*◌, ◌≤◌, ◌<◌, T, leb, ltb}
use Rattle.std.proofs.Common.{sym, ap, ap₂, mul-le-mul, le_refl, le_of_lt, le_of_eq, mul-le-mul_right, mul-lt-mul_of_pos_right, mul-pos}
use Rattle.std.proofs.Common.{le_of_mul-le-mul_right, lt_of_mul-lt-mul_right, arith, lit<, lit≤}
use Rattle.exact.specs.Rounding.{up, down}
use Rattle.exact.specs.Fraction.{Fraction, ◌over◌, whole, ◌+F◌, ◌*F◌, reciprocal, ◌≤F◌, ◌<F◌, ◌≃F◌}
use Rattle.exact.proofs.Laws.Rounding.{up_above, up_close, down_below, down_close}

-- The orders.

pub ≤F_refl : (x : Fraction) → 0 < x.den → x ≤F x
≤F_refl x d = record { left = d; right = d; across = le_refl (x.num * x.den) }

pub ≤F_trans : {x y z : Fraction} → x ≤F y → y ≤F z → x ≤F z
≤F_trans {x} {y} {z} p q =
    record {
      left = p.left;
      right = q.right;
      across =
          le_of_mul-le-mul_right {k = y.den}
          (omega (arith, mul-le-mul_right z.den p.across, mul-le-mul_right x.den q.across))
          p.right;
    }

pub <F-≤F_trans : {x y z : Fraction} → x <F y → y ≤F z → x <F z
<F-≤F_trans {x} {y} {z} p q =
    record {
      left = p.left;
      right = q.right;
      across =
          lt_of_mul-lt-mul_right y.den
          (omega (arith, mul-lt-mul_of_pos_right p.across q.right, mul-le-mul_right x.den q.across));
    }

pub ≤F-<F_trans : {x y z : Fraction} → x ≤F y → y <F z → x <F z
≤F-<F_trans {x} {y} {z} p q =
    record {
      left = p.left;
      right = q.right;
      across =
          lt_of_mul-lt-mul_right y.den
          (omega (arith, mul-le-mul_right z.den p.across, mul-lt-mul_of_pos_right q.across p.left));
    }

pub <F→≤F : {x y : Fraction} → x <F y → x ≤F y
<F→≤F p = record { left = p.left; right = p.right; across = le_of_lt p.across }

-- nothing is below itself: with ≤F-<F-trans, no x ≤F y and y <F x together
pub <F_irrefl : {x : Fraction} → x <F x → ⊥
<F_irrefl {x} p = omega (arith, p.across)

pub ≃F→≤F : {x y : Fraction} → x ≃F y → x ≤F y
≃F→≤F p = record { left = p.left; right = p.right; across = le_of_eq p.across }

pub ≃F_refl : (x : Fraction) → 0 < x.den → x ≃F x
≃F_refl x d = record { left = d; right = d; across = refl }

pub ≃F_sym : {x y : Fraction} → x ≃F y → y ≃F x
≃F_sym p = record { left = p.right; right = p.left; across = sym p.across }

-- The order of two fractions that are numbers, by one test that computes.

all_three : (a b c : Bool) → T (a && (b && c)) → T a × T b × T c
all_three true true true test = (tt, tt, tt)
all_three false b c test = absurd test
all_three true false c test = absurd test
all_three true true false test = absurd test

pub closed≤ : {x y : Fraction} → T (ltb 0 x.den && (ltb 0 y.den && leb (x.num * y.den) (y.num * x.den))) → x ≤F y
closed≤ {x} {y} test =
    let parts = all_three (ltb 0 x.den) (ltb 0 y.den) (leb (x.num * y.den) (y.num * x.den)) test in
    record { left = lit< parts.0; right = lit< parts.1; across = lit≤ parts.2 }

-- Sums, products and reciprocals keep the order.

pub +F_mono : {x x' y y' : Fraction} → x ≤F x' → y ≤F y' → x +F y ≤F x' +F y'
unfolding ◌+F◌
+F_mono {x} {x'} {y} {y'} p q =
    record {
      left = mul-pos p.left q.left;
      right = mul-pos p.right q.right;
      across =
          omega (arith, mul-le-mul_right (y.den * y'.den) p.across, mul-le-mul_right (x.den * x'.den) q.across);
    }

pub +F_mono_< : {x x' y y' : Fraction} → x <F x' → y ≤F y' → x +F y <F x' +F y'
unfolding ◌+F◌
+F_mono_< {x} {x'} {y} {y'} p q =
    record {
      left = mul-pos p.left q.left;
      right = mul-pos p.right q.right;
      across =
          omega (
            arith,
            mul-lt-mul_of_pos_right p.across (mul-pos q.left q.right),
            mul-le-mul_right (x.den * x'.den) q.across,
          );
    }

pub *F_mono : {x x' y y' : Fraction} → x ≤F x' → y ≤F y' → x *F y ≤F x' *F y'
unfolding ◌*F◌
*F_mono {x} {x'} {y} {y'} p q =
    record {
      left = mul-pos p.left q.left;
      right = mul-pos p.right q.right;
      across = omega (arith, mul-le-mul p.across q.across);
    }

pub *F_mono_< : {x x' y : Fraction} → x <F x' → 0 < y.num → 0 < y.den → x *F y <F x' *F y
unfolding ◌*F◌
*F_mono_< {x} {x'} {y} p n d =
    record {
      left = mul-pos p.left d;
      right = mul-pos p.right d;
      across = omega (arith, mul-lt-mul_of_pos_right p.across (mul-pos n d));
    }

pub reciprocal_anti : {x y : Fraction} → 0 < x.num → x ≤F y → reciprocal y ≤F reciprocal x
unfolding reciprocal
reciprocal_anti {x} {y} n p =
    record {
      left = lt_of_mul-lt-mul_right x.den (omega (arith, mul-pos n p.right, p.across));
      right = n;
      across = omega (arith, p.across);
    }

-- Both operations are commutative and associative as pairs; a product distributes over a sum up to ≃F.

pub +F_comm : (x y : Fraction) → x +F y ≡ y +F x
unfolding ◌+F◌
+F_comm x y = ap₂ ◌over◌ (omega arith) (omega arith)

pub +F_assoc : (x y z : Fraction) → x +F y +F z ≡ x +F (y +F z)
unfolding ◌+F◌
+F_assoc x y z = ap₂ ◌over◌ (omega arith) (omega arith)

pub *F_comm : (x y : Fraction) → x *F y ≡ y *F x
unfolding ◌*F◌
*F_comm x y = ap₂ ◌over◌ (omega arith) (omega arith)

pub *F_assoc : (x y z : Fraction) → x *F y *F z ≡ x *F (y *F z)
unfolding ◌*F◌
*F_assoc x y z = ap₂ ◌over◌ (omega arith) (omega arith)

pub *F-+F : (x y z : Fraction) → 0 < x.den → 0 < y.den → 0 < z.den → x *F (y +F z) ≃F x *F y +F x *F z
unfolding ◌+F◌ ◌*F◌
*F-+F x y z dx dy dz =
    record {
      left = mul-pos dx (mul-pos dy dz);
      right = mul-pos (mul-pos dx dy) (mul-pos dx dz);
      across = omega arith;
    }

-- equal parts of a sum
pub +F-≃F : (x : Fraction) {y z : Fraction} → 0 < x.den → y ≃F z → x +F y ≃F x +F z
unfolding ◌+F◌
+F-≃F x dx p =
    record {
      left = mul-pos dx p.left;
      right = mul-pos dx p.right;
      across = omega (arith, ap (λ k. k * (x.den * x.den)) p.across);
    }

-- Whole numbers among the fractions.

pub whole_mono : {a b : ℕ} → a ≤ b → whole a ≤F whole b
whole_mono a≤b = record { left = lit< tt; right = lit< tt; across = mul-le-mul_right 1 a≤b }

pub whole-+F : (a b : ℕ) → whole a +F whole b ≡ whole (a + b)
unfolding ◌+F◌
whole-+F a b = ap₂ ◌over◌ (omega arith) refl

pub whole-*F : (a b : ℕ) → whole a *F whole b ≡ whole (a * b)
unfolding ◌*F◌
whole-*F a b = ap₂ ◌over◌ refl refl

-- up(a/b) and down(a/b) lie within 1 of a/b.

pub over≤up : (a : ℕ) {b : ℕ} → 0 < b → a over b ≤F whole (up a b)
over≤up a d = record { left = d; right = lit< tt; across = omega (arith, up_above a d) }

pub up<over : (a : ℕ) {b : ℕ} → 0 < b → whole (up a b) <F (a over b) +F whole 1
unfolding ◌+F◌
up<over a {b} d = record { left = lit< tt; right = omega arith; across = omega (arith, up_close a d) }

pub down≤over : (a : ℕ) {b : ℕ} → 0 < b → whole (down a b) ≤F a over b
down≤over a {b} d = record { left = lit< tt; right = d; across = omega (arith, down_below a b) }

pub over<down : (a : ℕ) {b : ℕ} → 0 < b → a over b <F whole (down a b) +F whole 1
unfolding ◌+F◌
over<down a {b} d = record { left = d; right = lit< tt; across = omega (arith, down_close a d) }
