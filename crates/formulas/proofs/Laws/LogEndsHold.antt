-- Stage 5's ends, without their octaves, enclose T times 2 artanh ζ: every sum of exact terms is at most the upper end, and every
-- such sum with its rest is at least the lower one. So the rounded series may stand for the logarithm itself, of which these sums
-- and rests are all that can be said in fractions. Assumes nothing.
use Rattle.std.proofs.Common.{ℕ, zero, suc, ◌+◌, ◌-◌, ◌*◌, ◌^◌, ◌≤◌, ◌<◌, arith}
use Rattle.std.specs.Prelude.{◌≡◌}
use Rattle.std.proofs.Common.{ap, ◌∙◌, pow-suc, one-mul, add_comm, mul-le-mul}
use Rattle.std.proofs.Math.Nat.{pow-zero, mul-pos, mul-le-mul_left, mul-le-mul_right, le_of_mul-le-mul_left}
use Rattle.std.proofs.Math.Dec.{lit<}
use Rattle.exact.specs.Rounding.{up, down}
use Rattle.exact.proofs.Laws.Rounding.{up_above, down_below}
use Rattle.exact.specs.Fraction.{Fraction, whole, ◌+F◌, ◌*F◌, reciprocal, ◌≤F◌}
use Rattle.exact.proofs.Laws.Fraction.{≤F_refl, ≤F_trans, ≃F→≤F, ≃F_sym, +F_mono, *F_mono, *F-+F, whole-+F}
use Rattle.exact.specs.Trillion.{trillion}
use Rattle.formulas.specs.Constants.{tera}
use Rattle.formulas.specs.Logarithm.{
  octaves,
  doubled,
  series,
  first_power,
  term_count,
  thirteen_terms,
  zeta,
  artanh_term,
  artanh_sum,
  artanh_rest,
}
use Rattle.formulas.proofs.Laws.Octaves.{Largest, octaves_largest}
use Rattle.formulas.proofs.Laws.LogEndsSum.{terms_from, odd_power, term_pos, sum_split, sum_terms, rest_covers, rest_pos, sum_mono}
use Rattle.formulas.proofs.Laws.LogEndsSum.{sum_rest}
use Rattle.formulas.proofs.Laws.LogRange.{tera>0}

-- The product of two powers over T, rounded either way.

product_up :
    (s t u v p q r : ℕ) → tera * s ≤ p * t → tera * u ≤ q * v → p * q ≤ r * tera → tera * (s * u) ≤ r * (t * v)
product_up s t u v p q r hp hq hr =
    le_of_mul-le-mul_left {k = tera} (omega (arith, mul-le-mul hp hq, mul-le-mul_right (t * v) hr)) tera>0

product_down :
    (s t u v p q r : ℕ) → p * t ≤ tera * s → q * v ≤ tera * u → r * tera ≤ p * q → r * (t * v) ≤ tera * (s * u)
product_down s t u v p q r hp hq hr =
    le_of_mul-le-mul_left {k = tera} (omega (arith, mul-le-mul hp hq, mul-le-mul_right (t * v) hr)) tera>0

pow_one : (n : ℕ) → n ^ 1 ≡ n
pow_one n = pow-suc n 0 ∙ ap (λ k. k * n) (pow-zero n) ∙ one-mul n

pow_two : (n : ℕ) → n ^ 2 ≡ n * n
pow_two n = pow-suc n 1 ∙ ap (λ k. k * n) (pow_one n)

tera≤tera : whole tera ≤F whole tera
tera≤tera = ≤F_refl (whole tera) (lit< tt)

-- T times a sum, where T times each part is at most or at least a whole number.

sum_up :
    (y z : Fraction) {m n : ℕ} → whole tera *F y ≤F whole m → whole tera *F z ≤F whole n →
    whole tera *F (y +F z) ≤F whole (m + n)
unfolding ◌*F◌
sum_up y z {m} {n} p q =
    ≤F_trans (≃F→≤F (*F-+F (whole tera) y z (lit< tt) (omega arith) (omega arith))) (rw (← whole-+F m n) (+F_mono p q))

sum_down :
    (y z : Fraction) {m n : ℕ} → whole m ≤F whole tera *F y → whole n ≤F whole tera *F z →
    whole (m + n) ≤F whole tera *F (y +F z)
unfolding ◌*F◌
sum_down y z {m} {n} p q =
    ≤F_trans (rw (← whole-+F m n) (+F_mono p q)) (≃F→≤F (≃F_sym (*F-+F (whole tera) y z (lit< tt) (omega arith) (omega arith))))

module _ (x : Fraction) (d>0 : 0 < x.den) (thrice : 3 * x.num ≤ x.den) where
  n<d : x.num < x.den
  n<d = omega arith

  term_up :
      (j p : ℕ) → tera * x.num ^ (2 * j + 1) ≤ p * x.den ^ (2 * j + 1) →
      whole tera *F artanh_term x j ≤F whole (up (2 * p) (2 * j + 1))
  unfolding artanh_term ◌*F◌
  term_up j p h =
      record {
        left = mul-pos (lit< tt) (term_pos x n<d j);
        right = lit< tt;
        across = omega (arith, mul-le-mul_right (x.den ^ (2 * j + 1)) (up_above (2 * p) {b = 2 * j + 1} (omega arith)));
      }

  terms_up :
      (q : ℕ) → tera * x.num ^ 2 ≤ q * x.den ^ 2 → (n j p : ℕ) → tera * x.num ^ (2 * j + 1) ≤ p * x.den ^ (2 * j + 1) →
      whole tera *F terms_from x n j ≤F whole (series up q n j p)
  unfolding terms_from series
  terms_up q hq zero j p hp = unfold ◌*F◌ in record { left = lit< tt; right = lit< tt; across = omega arith }
  terms_up q hq (suc n) j p hp =
      sum_up _ _ (term_up j p hp)
      (terms_up q hq n (j + 1) (up (p * q) tera)
      (rw (odd_power x.num j, odd_power x.den j) (product_up _ _ _ _ p q _ hp hq (up_above (p * q) tera>0))))

  term_down :
      (j p : ℕ) → p * x.den ^ (2 * j + 1) ≤ tera * x.num ^ (2 * j + 1) →
      whole (down (2 * p) (2 * j + 1)) ≤F whole tera *F artanh_term x j
  unfolding artanh_term ◌*F◌
  term_down j p h =
      record {
        left = lit< tt;
        right = mul-pos (lit< tt) (term_pos x n<d j);
        across = omega (arith, mul-le-mul_right (x.den ^ (2 * j + 1)) (down_below (2 * p) (2 * j + 1)));
      }

  terms_down :
      (q : ℕ) → q * x.den ^ 2 ≤ tera * x.num ^ 2 → (n j p : ℕ) → p * x.den ^ (2 * j + 1) ≤ tera * x.num ^ (2 * j + 1) →
      whole (series down q n j p) ≤F whole tera *F terms_from x n j
  unfolding terms_from series
  terms_down q hq zero j p hp = unfold ◌*F◌ in record { left = lit< tt; right = lit< tt; across = omega arith }
  terms_down q hq (suc n) j p hp =
      sum_down _ _ (term_down j p hp)
      (terms_down q hq n (j + 1) (down (p * q) tera)
      (rw (odd_power x.num j, odd_power x.den j) (product_down _ _ _ _ p q _ hp hq (down_below (p * q) tera))))

  thirds : (k : ℕ) → 3 ^ k * x.num ^ k ≤ x.den ^ k
  thirds zero = omega (arith, pow-zero x.num, pow-zero x.den)
  thirds (suc k) = rw (pow-suc 3 k, pow-suc x.num k, pow-suc x.den k) (omega (arith, mul-le-mul (thirds k) thrice))

  -- what the terms leave out
  rest_small : whole tera *F artanh_rest x term_count ≤F whole 1
  unfolding artanh_rest artanh_term ◌*F◌ reciprocal tera
  rest_small =
      let far : trillion * x.num ^ (2 * term_count + 1) ≤ x.den ^ (2 * term_count + 1) = omega (arith, thirds (2 * term_count + 1)) in
      let near : 8 * x.den ^ 2 ≤ 9 * (x.den ^ 2 - x.num ^ 2) = omega (arith, thirds 2) in
      record {
        left = mul-pos (lit< tt) (rest_pos x n<d term_count);
        right = lit< tt;
        across = omega (arith, mul-le-mul_right (x.den ^ 2) far, mul-le-mul_left (x.den ^ (2 * term_count + 1)) near);
      }

  sums_up : (p : ℕ) → tera * x.num ≤ p * x.den → (n : ℕ) → whole tera *F artanh_sum x n ≤F whole (thirteen_terms up p + 1)
  unfolding thirteen_terms
  sums_up p hp n =
      let first : tera * x.num ^ 1 ≤ p * x.den ^ 1 = rw (pow_one x.num, pow_one x.den) hp in
      let squared : tera * x.num ^ 2 ≤ up (p * p) tera * x.den ^ 2 =
      rw (pow_two x.num, pow_two x.den) (product_up _ _ _ _ p p _ hp hp (up_above (p * p) tera>0))
      in
      ≤F_trans (*F_mono tera≤tera (sum_mono x n<d n term_count))
      (rw (add_comm n term_count, sum_split x term_count n, sum_terms x term_count)
      (sum_up _ _ (terms_up (up (p * p) tera) squared term_count 0 p first)
      (≤F_trans (*F_mono tera≤tera (rest_covers x n<d n term_count)) rest_small)))

  sums_down :
      (p : ℕ) → p * x.den ≤ tera * x.num → (n : ℕ) → whole (thirteen_terms down p) ≤F whole tera *F (artanh_sum x n +F artanh_rest x n)
  unfolding thirteen_terms
  sums_down p hp n =
      let first : p * x.den ^ 1 ≤ tera * x.num ^ 1 = rw (pow_one x.num, pow_one x.den) hp in
      let squared : down (p * p) tera * x.den ^ 2 ≤ tera * x.num ^ 2 =
      rw (pow_two x.num, pow_two x.den) (product_down _ _ _ _ p p _ hp hp (down_below (p * p) tera))
      in
      let longer : artanh_sum x term_count ≤F artanh_sum x (n + term_count) = rw (add_comm n term_count) (sum_mono x n<d term_count n) in
      ≤F_trans (terms_down (down (p * p) tera) squared term_count 0 p first)
      (rw (← sum_terms x term_count) (*F_mono tera≤tera (≤F_trans longer (sum_rest x n<d n term_count))))

module _ (a b : ℕ) (b>0 : 0 < b) (b≤a : b ≤ a) where
  zeta_pos : 0 < (zeta a b).den
  unfolding zeta
  zeta_pos = omega arith

  zeta_third : 3 * (zeta a b).num ≤ (zeta a b).den
  unfolding zeta doubled
  zeta_third =
      let k : Largest a b (octaves a b) = octaves_largest a b b>0 b≤a in
      omega arith

  first_up : tera * (zeta a b).num ≤ first_power up a b * (zeta a b).den
  unfolding first_power zeta
  first_up = omega (arith, up_above ((a - doubled a b) * tera) zeta_pos)

  first_down : first_power down a b * (zeta a b).den ≤ tera * (zeta a b).num
  unfolding first_power zeta
  first_down = omega (arith, down_below ((a - doubled a b) * tera) (a + doubled a b))

  pub upper_end_holds : (n : ℕ) → whole tera *F artanh_sum (zeta a b) n ≤F whole (thirteen_terms up (first_power up a b) + 1)
  upper_end_holds n = sums_up (zeta a b) zeta_pos zeta_third (first_power up a b) first_up n

  pub lower_end_holds :
      (n : ℕ) → whole (thirteen_terms down (first_power down a b)) ≤F whole tera *F (artanh_sum (zeta a b) n +F artanh_rest (zeta a b) n)
  lower_end_holds n = sums_down (zeta a b) zeta_pos zeta_third (first_power down a b) first_down n
