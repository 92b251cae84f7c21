-- How errors weaken, follow on one another and pass through sums, products and quotients. Measured against the larger value, relative
-- errors simply add under products and quotients, with no second-order terms. Assumes nothing.
use Rattle.std.proofs.Common.{arith}
use Rattle.std.specs.Prelude.{◌≡◌, ℕ, ◌+◌, ◌*◌, ◌≤◌, ◌<◌}
use Rattle.std.proofs.Common.{ap₂, le_refl, zero-le, lit<}
use Rattle.std.proofs.Math.Nat.{mul-pos, mul-le-mul_right, lt_of_mul-lt-mul_left}
use Rattle.exact.specs.Fraction.{Fraction, ◌over◌, whole, ◌+F◌, ◌*F◌, reciprocal, ◌/F◌, ◌≤F◌, ◌≃F◌}
use Rattle.exact.proofs.Laws.Fraction.{≤F_refl, ≤F_trans, ≃F→≤F, ≃F_sym, +F_mono, *F_mono, reciprocal_anti, +F_assoc, *F_comm}
use Rattle.exact.specs.Error.{parts, Within}
use Rattle.exact.specs.Trillion.{trillion}

-- The excess that `Within` allows, r parts of y and c, and how it grows, adds up and is multiplied.

excess_mono : {r s : ℕ} {c d y z : Fraction} → r ≤ s → c ≤F d → y ≤F z → parts r *F y +F c ≤F parts s *F z +F d
unfolding parts
excess_mono r≤s c≤d y≤z =
    +F_mono (*F_mono (record { left = lit< tt; right = lit< tt; across = mul-le-mul_right trillion r≤s }) y≤z) c≤d

excess_add :
    (r s : ℕ) (c d y : Fraction) → 0 < c.den → 0 < d.den → 0 < y.den →
    (parts r *F y +F c) +F (parts s *F y +F d) ≃F parts (r + s) *F y +F (c +F d)
unfolding parts ◌+F◌ ◌*F◌
excess_add r s c d y c>0 d>0 y>0 =
    record {
      left = mul-pos (mul-pos (mul-pos (lit< tt) y>0) c>0) (mul-pos (mul-pos (lit< tt) y>0) d>0);
      right = mul-pos (mul-pos (lit< tt) y>0) (mul-pos c>0 d>0);
      across = omega arith;
    }

excess_sum :
    (r : ℕ) (c d y z : Fraction) → 0 < c.den → 0 < d.den → 0 < y.den → 0 < z.den →
    (parts r *F y +F c) +F (parts r *F z +F d) ≃F parts r *F (y +F z) +F (c +F d)
unfolding parts ◌+F◌ ◌*F◌
excess_sum r c d y z c>0 d>0 y>0 z>0 =
    record {
      left = mul-pos (mul-pos (mul-pos (lit< tt) y>0) c>0) (mul-pos (mul-pos (lit< tt) z>0) d>0);
      right = mul-pos (mul-pos (lit< tt) (mul-pos y>0 z>0)) (mul-pos c>0 d>0);
      across = omega arith;
    }

pos_add : {a : ℕ} (b : ℕ) → 0 < a → 0 < a + b
pos_add b h = omega arith

swap : (x y z w : Fraction) → x +F y +F (z +F w) ≡ x +F z +F (y +F w)
unfolding ◌+F◌
swap x y z w = ap₂ ◌over◌ (omega arith) (omega arith)

pub rest_has_value : {r : ℕ} {c x y : Fraction} → Within r c x y → 0 < c.den
unfolding parts ◌+F◌ ◌*F◌
rest_has_value {r} {c} {x} {y} p =
    lt_of_mul-lt-mul_left (x.den * (trillion * y.den)) {m = 0} {n = c.den} (omega (arith, p.close.right))

-- How errors weaken and follow on one another.

pub within_refl : {x : Fraction} → x ≤F x → Within 0 (whole 0) x x
unfolding parts ◌+F◌ ◌*F◌
within_refl {x} x≤x =
    record {
      below = x≤x;
      close =
          record {
            left = x≤x.left;
            right = mul-pos x≤x.left (mul-pos (mul-pos (lit< tt) x≤x.left) (lit< tt));
            across = omega arith;
          };
    }

pub within_weaken : {r s : ℕ} {c d x y : Fraction} → r ≤ s → c ≤F d → Within r c x y → Within s d x y
within_weaken r≤s c≤d p =
    record {
      below = p.below;
      close =
          ≤F_trans p.close (+F_mono (≤F_refl _ p.below.left) (excess_mono r≤s c≤d (≤F_refl _ p.below.right)));
    }

-- a whole number is within any bound of itself
pub within_itself : {r c : ℕ} (n : ℕ) → Within r (whole c) (whole n) (whole n)
within_itself n =
    within_weaken zero-le (record { left = lit< tt; right = lit< tt; across = zero-le }) (within_refl (≤F_refl (whole n) (lit< tt)))

pub within_trans : {r s : ℕ} {c d x y z : Fraction} → Within r c x y → Within s d y z → Within (r + s) (c +F d) x z
within_trans {r} {s} {c} {d} {x} {y} {z} p q =
    let x≤x = ≤F_refl x p.below.left in
    let z≤z = ≤F_refl z q.below.right in
    let c≤c = ≤F_refl c (rest_has_value p) in
    let d≤d = ≤F_refl d (rest_has_value q) in
    let y_above_x : y ≤F x +F (parts r *F z +F c) = ≤F_trans p.close (+F_mono x≤x (excess_mono (le_refl r) c≤c q.below)) in
    let z_above_x : z ≤F x +F (parts r *F z +F c) +F (parts s *F z +F d) =
    ≤F_trans q.close (+F_mono y_above_x (excess_mono (le_refl s) d≤d z≤z))
    in
    record {
      below = ≤F_trans p.below q.below;
      close =
          ≤F_trans z_above_x
          (rw +F_assoc (+F_mono x≤x (≃F→≤F (excess_add r s c d z c≤c.left d≤d.left z≤z.left))));
    }

-- the same values, written otherwise
pub within_same : {r : ℕ} {c x x' y y' : Fraction} → x ≃F x' → y ≃F y' → Within r c x y → Within r c x' y'
within_same {r} {c} x≃ y≃ p =
    record {
      below = ≤F_trans (≃F→≤F (≃F_sym x≃)) (≤F_trans p.below (≃F→≤F y≃));
      close =
          ≤F_trans (≃F→≤F (≃F_sym y≃))
          (≤F_trans p.close
          (+F_mono (≃F→≤F x≃) (excess_mono (le_refl r) (≤F_refl c (rest_has_value p)) (≃F→≤F y≃))));
    }

-- an absolute error that is at most s parts of the value is a relative one
pub within_absorb : (s : ℕ) {r : ℕ} {c x y : Fraction} → c ≤F parts s *F y → Within r c x y → Within (r + s) (whole 0) x y
unfolding parts ◌+F◌ ◌*F◌
within_absorb s {r} {c} {x} {y} c≤sy p =
    let y>0 = p.below.right in
    let together : parts r *F y +F parts s *F y ≃F parts (r + s) *F y +F whole 0 =
    record {
      left = mul-pos (mul-pos (lit< tt) y>0) (mul-pos (lit< tt) y>0);
      right = mul-pos (mul-pos (lit< tt) y>0) (lit< tt);
      across = omega arith;
    }
    in
    record {
      below = p.below;
      close =
          ≤F_trans p.close
          (+F_mono (≤F_refl x p.below.left)
          (≤F_trans (+F_mono (≤F_refl (parts r *F y) (mul-pos (lit< tt) y>0)) c≤sy) (≃F→≤F together)));
    }

-- How errors pass through sums, products, reciprocals and u/(b + m u).

pub within_sum : {r : ℕ} {c d x y u v : Fraction} → Within r c x y → Within r d u v → Within r (c +F d) (x +F u) (y +F v)
within_sum {r} {c} {d} {x} {y} {u} {v} p q =
    let x+u≤x+u = +F_mono (≤F_refl x p.below.left) (≤F_refl u q.below.left) in
    record {
      below = +F_mono p.below q.below;
      close =
          ≤F_trans (+F_mono p.close q.close)
          (rw (swap x (parts r *F y +F c) u (parts r *F v +F d))
          (+F_mono x+u≤x+u
          (≃F→≤F (excess_sum r c d y v (rest_has_value p) (rest_has_value q) p.below.right q.below.right))));
    }

added_nothing : (c : Fraction) → 0 < c.den → c +F whole 0 ≤F c
unfolding ◌+F◌
added_nothing c c>0 = record { left = omega (arith, c>0); right = c>0; across = omega arith }

-- the same exact value added to both
pub within_plus : {r : ℕ} {c x y : Fraction} (k : Fraction) → 0 < k.den → Within r c x y → Within r c (x +F k) (y +F k)
within_plus {r} {c} k k>0 p =
    let k_itself : Within r (whole 0) k k =
    within_weaken zero-le (≤F_refl (whole 0) (lit< tt)) (within_refl (≤F_refl k k>0))
    in
    within_weaken (le_refl r) (added_nothing c (rest_has_value p)) (within_sum p k_itself)

-- both values multiplied by k, which is at most m
pub within_times : {r : ℕ} {c x y k m : Fraction} → k ≤F m → Within r c x y → Within r (c *F m) (x *F k) (y *F k)
unfolding parts ◌+F◌ ◌*F◌
within_times {r} {c} {x} {y} {k} {m} k≤m p =
    let x>0 = p.below.left in
    let y>0 = p.below.right in
    let c>0 = rest_has_value p in
    let k>0 = k≤m.left in
    let k≤k = ≤F_refl k k>0 in
    let spread : (x +F (parts r *F y +F c)) *F k ≃F x *F k +F (parts r *F (y *F k) +F c *F k) =
    record {
      left = mul-pos (mul-pos x>0 (mul-pos (mul-pos (lit< tt) y>0) c>0)) k>0;
      right = mul-pos (mul-pos x>0 k>0) (mul-pos (mul-pos (lit< tt) (mul-pos y>0 k>0)) (mul-pos c>0 k>0));
      across = omega arith;
    }
    in
    record {
      below = *F_mono p.below k≤k;
      close =
          ≤F_trans (*F_mono p.close k≤k)
          (≤F_trans (≃F→≤F spread)
          (+F_mono (≤F_refl (x *F k) (mul-pos x>0 k>0))
          (excess_mono (le_refl r) (*F_mono (≤F_refl c c>0) k≤m) (≤F_refl (y *F k) (mul-pos y>0 k>0)))));
    }

-- relative errors add; each absolute one is multiplied by a bound on the other factor
pub within_product :
    {r s : ℕ} {c d x y u v m n : Fraction} → u ≤F n → y ≤F m → Within r c x y → Within s d u v →
    Within (r + s) (c *F n +F d *F m) (x *F u) (y *F v)
within_product {s = s} {d = d} {y = y} {u} {v} {m} u≤n y≤m p q =
    let second : Within s (d *F m) (y *F u) (y *F v) = rw (*F_comm y u, *F_comm y v) (within_times y≤m q) in
    within_trans (within_times u≤n p) second

pub within_reciprocal :
    {r : ℕ} {c x y : Fraction} → 0 < x.num → Within r c x y →
    Within r (c /F (x *F y)) (reciprocal y) (reciprocal x)
unfolding parts ◌+F◌ ◌*F◌ reciprocal
within_reciprocal {r} {c} {x} {y} x≠0 p =
    let 1/y≤1/x : reciprocal y ≤F reciprocal x = reciprocal_anti x≠0 p.below in
    let x>0 = p.below.left in
    let y>0 = p.below.right in
    let c>0 = rest_has_value p in
    let y≠0 : 0 < y.num = 1/y≤1/x.left in
    let xy≠0 : 0 < x.num * y.num = mul-pos x≠0 y≠0 in
    let y_over_xy : reciprocal x ≃F y /F (x *F y) =
    record { left = x≠0; right = mul-pos y>0 xy≠0; across = omega arith }
    in
    let spread : (x +F (parts r *F y +F c)) /F (x *F y) ≃F reciprocal y +F (parts r *F reciprocal x +F c /F (x *F y)) =
    record {
      left = mul-pos (mul-pos x>0 (mul-pos (mul-pos (lit< tt) y>0) c>0)) xy≠0;
      right = mul-pos y≠0 (mul-pos (mul-pos (lit< tt) x≠0) (mul-pos c>0 xy≠0));
      across = omega arith;
    }
    in
    record {
      below = 1/y≤1/x;
      close =
          ≤F_trans (≃F→≤F y_over_xy)
          (≤F_trans (*F_mono p.close (≤F_refl (reciprocal (x *F y)) xy≠0)) (≃F→≤F spread));
    }

-- u/(b + m u) rises with u, and no faster than u/b
module _ {b m : Fraction} (b≠0 : 0 < b.num) (b≤b : b ≤F b) (m≤m : m ≤F m) where
  bottom_pos : (u : Fraction) → 0 < u.den → 0 < (b +F m *F u).num
  unfolding ◌+F◌ ◌*F◌
  bottom_pos u u>0 = pos_add _ (mul-pos b≠0 (mul-pos m≤m.left u>0))

  bottom_least : (u : Fraction) → 0 < u.den → b ≤F b +F m *F u
  unfolding ◌+F◌ ◌*F◌
  bottom_least u u>0 =
      record { left = b≤b.left; right = mul-pos b≤b.left (mul-pos m≤m.left u>0); across = omega arith }

  saturate_mono : {x y : Fraction} → x ≤F y → x /F (b +F m *F x) ≤F y /F (b +F m *F y)
  unfolding ◌+F◌ ◌*F◌ reciprocal
  saturate_mono {x} {y} x≤y =
      record {
        left = mul-pos x≤y.left (bottom_pos x x≤y.left);
        right = mul-pos x≤y.right (bottom_pos y x≤y.right);
        across = omega (arith, mul-le-mul_right (b.den * m.den * x.den * b.num * m.den * y.den) x≤y.across);
      }

  pub within_saturate : {r : ℕ} {c x y : Fraction} → Within r c x y → Within r (c /F b) (x /F (b +F m *F x)) (y /F (b +F m *F y))
  unfolding reciprocal
  within_saturate {r} {c} {x} {y} p =
      let x>0 = p.below.left in
      let y>0 = p.below.right in
      let falls : reciprocal (b +F m *F y) ≤F reciprocal (b +F m *F x) =
      reciprocal_anti (bottom_pos x x>0) (+F_mono b≤b (*F_mono m≤m p.below))
      in
      let over_y : Within r (c /F b) (x /F (b +F m *F y)) (y /F (b +F m *F y)) =
      within_times (reciprocal_anti b≠0 (bottom_least y y>0)) p
      in
      let value : x /F (b +F m *F x) ≤F y /F (b +F m *F y) = saturate_mono p.below in
      record {
        below = value;
        close =
            ≤F_trans over_y.close
            (+F_mono (*F_mono (≤F_refl x x>0) falls)
            (excess_mono (le_refl r) (≤F_refl (c /F b) (rest_has_value over_y)) (≤F_refl _ value.right)));
      }

-- Relative errors alone: a factor and a reciprocal keep them, and they add under a product.

zero_times : (k : Fraction) → 0 < k.den → whole 0 *F k ≤F whole 0
unfolding ◌*F◌
zero_times k k>0 = record { left = omega arith; right = lit< tt; across = omega arith }

pub within_scale : {r : ℕ} {x y : Fraction} (k : Fraction) → 0 < k.den → Within r (whole 0) x y → Within r (whole 0) (k *F x) (k *F y)
within_scale {x = x} {y} k k>0 p =
    rw (*F_comm k x, *F_comm k y) (within_weaken (le_refl _) (zero_times k k>0) (within_times (≤F_refl k k>0) p))

no_rest : (x y : Fraction) → 0 < x.den → 0 < y.den → whole 0 *F x +F whole 0 *F y ≤F whole 0
unfolding ◌+F◌ ◌*F◌
no_rest x y x>0 y>0 = record { left = omega (arith, mul-pos x>0 y>0); right = lit< tt; across = omega arith }

pub within_relative_product :
    {r s : ℕ} {x y u v : Fraction} → Within r (whole 0) x y → Within s (whole 0) u v → Within (r + s) (whole 0) (x *F u) (y *F v)
within_relative_product {y = y} {u} p q =
    let u>0 = q.below.left in
    let y>0 = p.below.right in
    within_weaken (le_refl _) (no_rest u y u>0 y>0) (within_product (≤F_refl u u>0) (≤F_refl y y>0) p q)

pub within_relative_reciprocal :
    {r : ℕ} {x y : Fraction} → 0 < x.num → Within r (whole 0) x y → Within r (whole 0) (reciprocal y) (reciprocal x)
unfolding ◌*F◌ reciprocal
within_relative_reciprocal {x = x} {y} x≠0 p =
    within_weaken (le_refl _)
    (zero_times (reciprocal (x *F y)) (mul-pos x≠0 (reciprocal_anti x≠0 p.below).left))
    (within_reciprocal x≠0 p)
