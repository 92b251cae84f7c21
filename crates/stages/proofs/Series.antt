-- The thirteen terms of stage 5 as the loop adds them: what holds before each turn, and that a turn keeps it. Assumes nothing.
use Rattle.std.proofs.Common.{◌≡◌, ap, subst, ◌∙◌, ℕ, zero, suc, ◌+◌, ◌-◌, ◌*◌, ◌^◌, ◌≤◌, ◌<◌, zero-add, le_trans}
use Rattle.std.proofs.Common.{lt_of_le_of_lt, arith, lit<, lit≤}
use Rattle.exact.specs.Trillion.{trillion}
use Rattle.formulas.specs.Constants.{tera}
use Rattle.formulas.specs.Logarithm.{series, thirteen_terms}
use Rattle.formulas.proofs.Laws.LogRange.{Bounded, power_most, term_most}
use Rattle.formulas.specs.Laws.Bounds.{most_power}

-- before term j the sum and the terms that are left make the whole, and every number is small
pub record Summed (round : ℕ → ℕ → ℕ) (first q p sum j : ℕ) : Type 0 where
  pub whole : sum + series round q (13 - j) j p ≡ thirteen_terms round first
  pub ratio : q ≤ most_power
  pub power : p ≤ most_power
  pub total : sum ≤ j * 666666666668
  pub passed : j ≤ 13
  pub alive : 0 < j → 0 < p → 0 < q

-- a power, or the first one, fits a limb
pub fits : {n : ℕ} → n ≤ most_power → n < 2 ^ 64
fits h = lt_of_le_of_lt h (lit< tt)

module _ {round : ℕ → ℕ → ℕ} (bounded : Bounded round) where
  pub product_most : (p q : ℕ) → p ≤ most_power → q ≤ most_power → round (p * q) trillion ≤ most_power
  unfolding tera
  product_most p q p≤ q≤ = power_most bounded p q most_power (le_trans q≤ (lit≤ tt)) p≤

  pub begin : {first q : ℕ} → first ≤ most_power → q ≡ round (first * first) trillion → Summed round first q first 0 0
  unfolding thirteen_terms tera
  begin {first} {q} first≤ q-is =
      record {
        whole = zero-add _ ∙ ap (λ x. series round x 13 0 first) q-is;
        ratio = omega (arith, product_most first first first≤ first≤);
        power = first≤;
        total = omega arith;
        passed = omega arith;
        alive = λ j>0. absurd (omega (arith, j>0));
      }

  -- a power above 0 is not made by a ratio of 0
  ratio_above : (p q : ℕ) → 0 < round (p * q) trillion → 0 < q
  ratio_above p zero next>0 = absurd (omega (arith, bounded (p * 0) 0 trillion (omega arith) (omega arith)))
  ratio_above p (suc q) next>0 = omega arith

  -- a turn adds term j and goes on to the next power
  module _
      {first q p sum j term : ℕ}
      (s : Summed round first q p sum j)
      (j<13 : j < 13)
      (term_is : term ≡ round (2 * p) (2 * j + 1)) where
    pub more_total : sum + term ≤ (j + 1) * 666666666668
    more_total = omega (arith, term_most bounded p j most_power s.power)

    pub more : {next : ℕ} → next ≡ round (p * q) trillion → Summed round first q next (sum + term) (j + 1)
    unfolding series tera
    more {next} next-is =
        let left : 13 - j ≡ suc (13 - (j + 1)) = omega arith in
        record {
          whole =
              omega (
                arith,
                ap (λ n. series round q n j p) left,
                ap (λ x. series round q (13 - (j + 1)) (j + 1) x) next-is,
              );
          ratio = s.ratio;
          power = omega (arith, product_most p q s.power s.ratio);
          total = more_total;
          passed = omega arith;
          alive = λ j>0 next>0. ratio_above p q (subst (λ n. 0 < n) next-is next>0);
        }

pub done : {round : ℕ → ℕ → ℕ} {first q p sum j : ℕ} → Summed round first q p sum j → 13 ≤ j → sum ≡ thirteen_terms round first
unfolding series
done {round} {q = q} {p} {j = j} s h =
    let none : 13 - j ≡ 0 = omega arith in
    omega (arith, ap (λ n. series round q n j p) none)
