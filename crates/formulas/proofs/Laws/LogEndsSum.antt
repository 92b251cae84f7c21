-- The sums of the exact terms of 2 artanh x rise with the number of terms, and no sum passes another by more than the rest that
-- `artanh_rest` states for it, where x is below 1. So a sum of any length speaks for those of all lengths. Assumes nothing.
use Rattle.std.proofs.Common.{ℕ, zero, suc, ◌+◌, ◌-◌, ◌*◌, ◌^◌, ◌≤◌, ◌<◌, arith}
use Rattle.std.specs.Prelude.{◌≡◌}
use Rattle.std.proofs.Common.{sym, ap, ap₂, ◌∙◌, add-zero, zero-add, mul-le-mul_left, add-one, pow-add}
use Rattle.std.proofs.Math.Nat.{mul-pos, one-le-pow, pow-lt-pow_left}
use Rattle.std.proofs.Math.Dec.{lit<}
use Rattle.exact.specs.Fraction.{Fraction, ◌over◌, whole, ◌+F◌, ◌*F◌, reciprocal, ◌≤F◌}
use Rattle.exact.proofs.Laws.Fraction.{≤F_refl, ≤F_trans, +F_mono, +F_comm, +F_assoc}
use Rattle.formulas.specs.Logarithm.{artanh_term, artanh_sum, artanh_rest}

-- the sum of n exact terms from the j-th on
unfoldable pub terms_from : Fraction → ℕ → ℕ → Fraction
terms_from x zero j = whole 0
terms_from x (suc n) j = artanh_term x j +F terms_from x n (j + 1)

+F_zero : (x : Fraction) → x +F whole 0 ≡ x
unfolding ◌+F◌
+F_zero x = ap₂ ◌over◌ (omega arith) (omega arith)

+F_more : (x y : Fraction) → 0 < x.den → 0 < y.den → x ≤F x +F y
unfolding ◌+F◌
+F_more x y dx dy = record { left = dx; right = mul-pos dx dy; across = omega arith }

pub sum_split : (x : Fraction) (j n : ℕ) → artanh_sum x (j + n) ≡ artanh_sum x j +F terms_from x n j
unfolding artanh_sum terms_from
sum_split x j zero = rw (add-zero, +F_zero)
sum_split x j (suc n) =
    let along : j + suc n ≡ suc j + n = omega arith in
    ap (artanh_sum x) along ∙ sum_split x (suc j) n ∙ rw (+F_assoc, add-one)

pub sum_terms : (x : Fraction) (n : ℕ) → artanh_sum x n ≡ terms_from x n 0
unfolding artanh_sum
sum_terms x n = ap (artanh_sum x) (sym (zero-add n)) ∙ sum_split x 0 n ∙ +F_comm (whole 0) (terms_from x n 0) ∙ +F_zero (terms_from x n 0)

-- the next odd power
pub odd_power : (n j : ℕ) → n ^ (2 * (j + 1) + 1) ≡ n ^ (2 * j + 1) * n ^ 2
odd_power n j =
    let more : 2 * (j + 1) + 1 ≡ 2 * j + 1 + 2 = omega arith in
    ap (λ k. n ^ k) more ∙ pow-add n (2 * j + 1) 2

rest_across :
    (m m' s s' t t' u v w : ℕ) → m' ≡ m + 2 → s' ≡ s * u → t' ≡ t * v → v ≡ u + w →
    (2 * s * (m' * t' * w) + 2 * s' * v * (m * t)) * (m * t * w) ≤ 2 * s * v * (m * t * (m' * t' * w))
rest_across m m' s s' t t' u v w em es et ev =
    let core : (m + 2) * w + m * u ≤ (m + 2) * v = omega (arith, ap (λ y. m * y) ev) in
    rw (em, es, et) (omega (arith, mul-le-mul_left (2 * s * t * v * m * t * w) core))

module _ (x : Fraction) (n<d : x.num < x.den) where
  pub term_pos : (j : ℕ) → 0 < (artanh_term x j).den
  unfolding artanh_term
  term_pos j = mul-pos {m = 2 * j + 1} (omega arith) (one-le-pow (2 * j + 1) x.den (omega arith))

  terms_pos : (n j : ℕ) → 0 < (terms_from x n j).den
  unfolding terms_from ◌+F◌
  terms_pos zero j = lit< tt
  terms_pos (suc n) j = mul-pos (term_pos j) (terms_pos n (j + 1))

  sum_pos : (n : ℕ) → 0 < (artanh_sum x n).den
  unfolding artanh_sum ◌+F◌
  sum_pos zero = lit< tt
  sum_pos (suc n) = mul-pos (sum_pos n) (term_pos n)

  squares : x.num ^ 2 < x.den ^ 2
  squares = pow-lt-pow_left n<d (omega arith)

  pub rest_pos : (j : ℕ) → 0 < (artanh_rest x j).den
  unfolding artanh_rest ◌*F◌ reciprocal
  rest_pos j = mul-pos (term_pos j) (omega (arith, squares))

  rest_step : (j : ℕ) → artanh_term x j +F artanh_rest x (j + 1) ≤F artanh_rest x j
  unfolding artanh_term artanh_rest ◌+F◌ ◌*F◌ reciprocal
  rest_step j =
      record {
        left = mul-pos (term_pos j) (rest_pos (j + 1));
        right = rest_pos j;
        across =
            rest_across (2 * j + 1) (2 * (j + 1) + 1) _ _ _ _ (x.num ^ 2) (x.den ^ 2) (x.den ^ 2 - x.num ^ 2)
            (omega arith)
            (odd_power x.num j)
            (odd_power x.den j)
            (omega (arith, squares));
      }

  pub rest_covers : (n j : ℕ) → terms_from x n j ≤F artanh_rest x j
  unfolding terms_from
  rest_covers zero j = record { left = lit< tt; right = rest_pos j; across = omega arith }
  rest_covers (suc n) j = ≤F_trans (+F_mono (≤F_refl (artanh_term x j) (term_pos j)) (rest_covers n (j + 1))) (rest_step j)

  pub sum_mono : (n more : ℕ) → artanh_sum x n ≤F artanh_sum x (n + more)
  sum_mono n more = rw sum_split (+F_more _ _ (sum_pos n) (terms_pos more n))

  pub sum_rest : (n more : ℕ) → artanh_sum x (n + more) ≤F artanh_sum x n +F artanh_rest x n
  sum_rest n more = rw sum_split (+F_mono (≤F_refl (artanh_sum x n) (sum_pos n)) (rest_covers more n))
