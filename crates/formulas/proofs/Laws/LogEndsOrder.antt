-- The lower end of stage 5 is at most the upper one, whatever a and b are: rounded down, no power, no term and no ln 2 is above the
-- one rounded up. The ends of pi and of ln 2 are in order too, so there is a fraction to choose for each in the exact rise, and what
-- is said of every choice is said of one. Assumes nothing.
use Rattle.std.specs.Prelude.{ℕ, zero, suc, ◌+◌, ◌-◌, ◌*◌, ◌^◌, ◌≤◌}
use Rattle.std.proofs.Math.Nat.{div-zero}
use Rattle.std.proofs.Common.{le_trans, mul-le-mul, mul-le-mul_left, mul-le-mul_right, arith, lit<, lit≤}
use Rattle.exact.specs.Rounding.{up, down}
use Rattle.exact.proofs.Laws.Rounding.{down_le_up, up_mono}
use Rattle.exact.specs.Fraction.{◌over◌}
use Rattle.formulas.specs.Constants.{tera, pi_low, pi_high, ln2_low, ln2_high, IsPi, IsLn2}
use Rattle.formulas.specs.Logarithm.{octaves, doubled, series, first_power, term_count, thirteen_terms, log_low, log_high, IsLog}
use Rattle.formulas.proofs.Laws.Between.{between_over}

down_at_most_up : (a c b : ℕ) → a ≤ c → down a b ≤ up c b
down_at_most_up a c zero a≤c = unfold down in omega (arith, div-zero a)
down_at_most_up a c (suc b) a≤c =
    le_trans (down_le_up a (omega arith)) (up_mono a c (omega arith) (omega arith) (mul-le-mul_right (suc b) a≤c))

series_ordered : (q q' : ℕ) → q ≤ q' → (terms j p p' : ℕ) → p ≤ p' → series down q terms j p ≤ series up q' terms j p'
unfolding series
series_ordered q q' q≤ zero j p p' p≤ = omega arith
series_ordered q q' q≤ (suc terms) j p p' p≤ =
    omega (
      arith,
      down_at_most_up (2 * p) (2 * p') (2 * j + 1) (mul-le-mul_left 2 p≤),
      series_ordered q q' q≤ terms (j + 1) (down (p * q) tera) (up (p' * q') tera)
          (down_at_most_up (p * q) (p' * q') tera (mul-le-mul p≤ q≤)),
    )

thirteen_terms_ordered : (p p' : ℕ) → p ≤ p' → thirteen_terms down p ≤ thirteen_terms up p'
unfolding thirteen_terms
thirteen_terms_ordered p p' p≤ =
    series_ordered (down (p * p) tera) (up (p' * p') tera) (down_at_most_up (p * p) (p' * p') tera (mul-le-mul p≤ p≤))
    term_count 0 p p' p≤

first_power_ordered : (a b : ℕ) → first_power down a b ≤ first_power up a b
unfolding first_power
first_power_ordered a b =
    let top : ℕ = (a - doubled a b) * tera in
    down_at_most_up top top (a + doubled a b) (omega arith)

ln2_ordered : ln2_low ≤ ln2_high
unfolding ln2_low ln2_high
ln2_ordered = lit≤ tt

pub log_ends_ordered : (a b : ℕ) → log_low a b ≤ log_high a b
unfolding log_low log_high
log_ends_ordered a b =
    omega (
      arith,
      thirteen_terms_ordered (first_power down a b) (first_power up a b) (first_power_ordered a b),
      mul-le-mul_right (octaves a b) ln2_ordered,
    )

pub pi_exists : IsPi (pi_low over 10 ^ 10)
unfolding pi_low pi_high
pi_exists = between_over (lit< tt) (lit≤ tt) (lit≤ tt)

pub ln2_exists : IsLn2 (ln2_low over tera)
unfolding ln2_low ln2_high tera
ln2_exists = between_over (lit< tt) (lit≤ tt) (lit≤ tt)

pub log_exists : (a b : ℕ) → IsLog a b (log_low a b over tera)
unfolding tera
log_exists a b = between_over (lit< tt) (omega arith) (omega (arith, log_ends_ordered a b))
