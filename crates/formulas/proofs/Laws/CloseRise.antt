-- Stage 10 from bounds on E and d0 alone: the exact rise at the rating is at most the permitted rise, and at 2 mA more it is above.
-- An arrangement adds only how close its own R, S, W and dd are. Assumes nothing.
use Rattle.std.specs.Prelude.{◌≡◌, ℕ, ◌+◌, ◌*◌, ◌^◌, ◌≤◌, ◌<◌}
use Rattle.std.proofs.Common.{sym, ◌∙◌, ap, le_refl, le_trans, le_of_eq, lt_of_le_of_lt, add-le-add, add-mul, mul_assoc}
use Rattle.std.proofs.Common.{mul-le-mul_right, mul-le-mul_left, mul-lt-mul_of_pos_right, arith}
use Rattle.std.proofs.Math.Nat.{lt_of_lt_of_le, mul-pos, lt_of_mul-lt-mul_left}
use Rattle.std.proofs.Math.Dec.{lit<}
use Rattle.exact.specs.Fraction.{Fraction, ◌over◌, whole, ◌+F◌, ◌*F◌, reciprocal, square, ◌≤F◌, ◌<F◌}
use Rattle.exact.proofs.Laws.Fraction.{≤F_refl, ≤F_trans, +F_mono, *F_mono}
use Rattle.exact.specs.Error.{parts, Within}
use Rattle.exact.specs.Trillion.{trillion}
use Rattle.formulas.specs.Rating.{rise*}
use Rattle.formulas.specs.Laws.CloseRise.{Stage10}

module _ {e* d0* : Fraction} {e d0 n p i : ℕ} (r : Stage10 e* d0* e d0 n p i) where
  pub rise_safe : rise* (whole i) e* d0* ≤F whole p
  unfolding rise* ◌*F◌ ◌+F◌ reciprocal
  rise_safe =
      ≤F_trans
      (+F_mono
      (*F_mono (*F_mono (≤F_refl (square (whole i)) (lit< tt)) r.e_close.below) (≤F_refl (reciprocal (whole (10 ^ 13))) (lit< tt)))
      r.d0_close.below)
      (record { left = lit< tt; right = lit< tt; across = omega (arith, r.rating.carried, r.left) })

-- What a bound says of the lower value: x is at least y less its excess.

lower_relative : {k y : ℕ} {x : Fraction} → Within k (whole 0) x (whole y) → trillion * (y * x.den) ≤ trillion * x.num + k * (y * x.den)
unfolding parts ◌+F◌ ◌*F◌
lower_relative p = omega (arith, p.close.across)

lower_absolute :
    {k y : ℕ} {x : Fraction} → Within k (whole 2) x (whole y) →
    trillion * (y * x.den) ≤ trillion * x.num + k * (y * x.den) + 2000000000000 * x.den
unfolding parts ◌+F◌ ◌*F◌
lower_absolute p = omega (arith, p.close.across)

-- A current whose square times E is 1.0000001866 times what N allows, or more, makes up for the errors of E and d0 together. The
-- numbers are long, so each sum is a lemma of its own.

in_all : (n : ℕ) → 10 ^ 25 * n + 2500 * (10 ^ 13 * (9 * n)) + 40000000000000000 * n ≡ 10000000265000000000000000 * n
in_all n = omega arith

in_parts : (x m : ℕ) → x < 999999840000 * m → x + 160000 * m < 10 ^ 12 * m
in_parts x m h = omega arith

step :
    (m d0 n u : ℕ) → 0 < n → 10000001866000 * n ≤ m → d0 ≤ 9 * n → 500000000 * u ≤ n →
    10 ^ 25 * n + 2500 * (10 ^ 13 * d0) + 2 * 10 ^ 25 * u + 160000 * m < 10 ^ 12 * m
step m d0 n u n>0 m≥ d0≤ n≥ =
    let lost : 2500 * (10 ^ 13 * d0) ≤ 2500 * (10 ^ 13 * (9 * n)) = mul-le-mul_left 2500 (mul-le-mul_left (10 ^ 13) d0≤) in
    let units : 2 * 10 ^ 25 * u ≤ 40000000000000000 * n = omega arith in
    let errors : 10 ^ 25 * n + 2500 * (10 ^ 13 * d0) + 2 * 10 ^ 25 * u ≤ 10000000265000000000000000 * n =
    le_trans (add-le-add (add-le-add (le_refl (10 ^ 25 * n)) lost) units) (le_of_eq (in_all n))
    in
    let less : 10000000265000000000000000 * n < 999999840000 * 10000001866000 * n = mul-lt-mul_of_pos_right (lit< tt) n>0 in
    let main : 999999840000 * 10000001866000 * n ≤ 999999840000 * m = rw mul_assoc (mul-le-mul_left 999999840000 m≥) in
    in_parts _ m (lt_of_le_of_lt errors (lt_of_lt_of_le less main))

-- The three facts over one denominator: how far E* and d0* lie below E and d0, and the step.
joined : (α β γ δ μ ν ξ η : ℕ) → μ ≤ ξ + ν → β ≤ η + γ + δ → α + γ + δ + ν < μ → α + β < ξ + η
joined α β γ δ μ ν ξ η e-less d0-less step< = omega arith

e_below :
    (m en ed den e : ℕ) → trillion * (e * ed) ≤ trillion * en + 160000 * (e * ed) →
    10 ^ 12 * (m * e * (ed * den)) ≤ 10 ^ 12 * (m * en * den) + 160000 * (m * e * (ed * den))
e_below m en ed den e h = omega (arith, mul-le-mul_right (m * den) h)

d0_below :
    (dn den ed d0 q : ℕ) → trillion * (d0 * den) ≤ trillion * dn + 2500 * (d0 * den) + 2000000000000 * den →
    10 ^ 25 * (d0 * q * (ed * den)) ≤ 10 ^ 25 * (dn * (q * ed)) + 2500 * (10 ^ 13 * (d0 * q * (ed * den))) + 2 * 10 ^ 25 * q * (ed * den)
d0_below dn den ed d0 q h = omega (arith, mul-le-mul_right (10 ^ 13 * (q * ed)) h)

step_below :
    (m n d0 u d : ℕ) → (10 ^ 25 * n + 2500 * (10 ^ 13 * d0) + 2 * 10 ^ 25 * u + 160000 * m) * d < 10 ^ 12 * m * d →
    10 ^ 25 * (n * d) + 2500 * (10 ^ 13 * (d0 * d)) + 2 * 10 ^ 25 * u * d + 160000 * (m * d) < 10 ^ 12 * (m * d)
step_below m n d0 u d h = omega arith

-- from 10^12 times the cross products to the cross products as the rise writes them
crossed :
    (m q en ed dn den n d0 p : ℕ) → n + d0 ≡ p →
    10 ^ 25 * (n * q * (ed * den)) + 10 ^ 25 * (d0 * q * (ed * den)) < 10 ^ 12 * (m * en * den) + 10 ^ 25 * (dn * (q * ed)) →
    p * (q * ed * 10000000000000 * den) < (m * en * 1 * den + dn * (q * ed * 10000000000000)) * 1
crossed m q en ed dn den n d0 p sum h =
    let whole_rise : n * (q * (ed * den)) + d0 * (q * (ed * den)) ≡ p * (q * (ed * den)) =
    sym (add-mul n d0 (q * (ed * den))) ∙ ap (λ k. k * (q * (ed * den))) sum
    in
    lt_of_mul-lt-mul_left (10 ^ 12) (omega arith)

module _ {e* d0* : Fraction} {e d0 n p i : ℕ} (r : Stage10 e* d0* e d0 n p i) where
  d0_most : d0 ≤ 9 * n
  d0_most = omega (arith, r.left, r.shares)

  pub n_least : 500000000 ≤ n
  n_least = omega (arith, r.left, r.shares, r.warm)

  -- at the current a/b
  pub above_at : (a b : ℕ) → 0 < b → 10000001866000 * (n * (b * b)) ≤ a * a * e → whole p <F rise* (a over b) e* d0*
  unfolding rise* ◌*F◌ ◌+F◌ reciprocal
  above_at a b b>0 enough =
      let ed>0 = r.e_close.below.left in
      let d0>0 = r.d0_close.below.left in
      let q>0 = mul-pos b>0 b>0 in
      let n>0 : 0 < n = lt_of_lt_of_le (lit< tt) n_least in
      let least = step (a * a * e) (d0 * (b * b)) (n * (b * b)) (b * b) (mul-pos n>0 q>0) enough
      (le_trans (mul-le-mul_right (b * b) d0_most) (le_of_eq (mul_assoc 9 n (b * b)))) (mul-le-mul_right (b * b) n_least)
      in
      record {
        left = lit< tt;
        right = mul-pos (mul-pos (mul-pos q>0 ed>0) (lit< tt)) d0>0;
        across =
            crossed (a * a) (b * b) e*.num e*.den d0*.num d0*.den n d0 p r.left
            (joined _ _ _ _ _ _ _ _
            (e_below (a * a) e*.num e*.den d0*.den e (lower_relative r.e_close))
            (d0_below d0*.num d0*.den e*.den d0 (b * b) (lower_absolute r.d0_close))
            (step_below (a * a * e) (n * (b * b)) (d0 * (b * b)) (b * b) (e*.den * d0*.den)
            (mul-lt-mul_of_pos_right least (mul-pos ed>0 d0>0))));
      }

  -- (i + 2)² is more than (i + 1)² by 2 parts in 5000001 or more
  pub rise_above : whole p <F rise* (whole (i + 2)) e* d0*
  rise_above =
      let square≤ : (i + 1) * (i + 1) ≤ 5000001 * (i + 1) = mul-le-mul_right (i + 1) (omega (arith, r.most)) in
      let squares : 5000003 * ((i + 1) * (i + 1)) ≤ 5000001 * ((i + 2) * (i + 2)) = omega arith in
      above_at _ 1 (lit< tt) (omega (arith, mul-le-mul_right e squares, r.rating.no_more))

  -- (i + 1 + i/10^7)² is more than (i + 1)² by 2i/(i + 1) parts in 10^7 or more
  pub rise_above_nearer : 14 ≤ i → whole p <F rise* (i * 10000001 + 10000000 over 10000000) e* d0*
  rise_above_nearer i≥ =
      let a = i * 10000001 + 10000000 in
      let near : 18660000 * (i + 1) ≤ 20000000 * i = omega arith in
      let squares : 100000018660000 * ((i + 1) * (i + 1)) ≤ a * a = omega (arith, mul-le-mul_right (i + 1) near) in
      above_at a 10000000 (lit< tt) (omega (arith, mul-le-mul_right e squares, r.rating.no_more))
