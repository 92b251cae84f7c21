-- Stage 5's two ends lie at most 100 T-ths apart where a/b is below 2^15: the powers rounded up and down never differ by more than
-- 3, so no term differs by more than 6. What follows from the logarithm is then known closely, whichever end it is taken from.
-- Assumes nothing.
use Rattle.std.specs.Prelude.{ℕ, zero, suc, ◌+◌, ◌-◌, ◌*◌, ◌≤◌, ◌<◌}
use Rattle.std.proofs.Common.{mul-le-mul_left, mul-le-mul_right, le_trans, add-le-add, le_refl, arith, lit<, lit≤}
use Rattle.exact.specs.Rounding.{up, down}
use Rattle.exact.proofs.Laws.Rounding.{up_least, down_close, up_le_suc_down}
use Rattle.exact.specs.Trillion.{trillion}
use Rattle.formulas.specs.Constants.{tera, ln2_low, ln2_high}
use Rattle.formulas.specs.Logarithm.{doubled, series, first_power, term_count, thirteen_terms, log_low, log_high}
use Rattle.formulas.proofs.Laws.LogRange.{most_power≤tera, up_bounded, down_bounded, power_most, first_power_most, octaves_most}
use Rattle.formulas.specs.Laws.Bounds.{most_power}

-- the next power, where the two factors differ by c and by e
power_gap :
    (c e g p q p' q' : ℕ) → most_power * (c + e) ≤ trillion * g → p' ≤ most_power → q ≤ most_power → p' ≤ p + c → q' ≤ q + e →
    up (p' * q') tera ≤ down (p * q) tera + (g + 1)
unfolding tera
power_gap c e g p q p' q' small p'≤ q≤ p-near q-near =
    up_least (p' * q') (down (p * q) trillion + (g + 1)) (lit< tt)
    (omega (
      arith,
      down_close (p * q) {b = trillion} (lit< tt),
      mul-le-mul_left p' q-near,
      mul-le-mul_right q p-near,
      mul-le-mul_right e p'≤,
      mul-le-mul_left c q≤,
    ))

term_gap : (j p p' : ℕ) → p' ≤ p + 3 → up (2 * p') (2 * j + 1) ≤ down (2 * p) (2 * j + 1) + 6
term_gap j p p' near =
    up_least (2 * p') _ {b = 2 * j + 1} (omega arith) (omega (arith, down_close (2 * p) {b = 2 * j + 1} (omega arith)))

series_gap :
    (q q' : ℕ) → q ≤ most_power → q' ≤ tera → q' ≤ q + 2 → (terms j p p' : ℕ) → p' ≤ most_power → p' ≤ p + 3 →
    series up q' terms j p' ≤ series down q terms j p + 6 * terms
unfolding series
series_gap q q' q≤ q'≤ q-near zero j p p' p'≤ near = omega arith
series_gap q q' q≤ q'≤ q-near (suc terms) j p p' p'≤ near =
    omega (
      arith,
      term_gap j p p' near,
      series_gap q q' q≤ q'≤ q-near terms (j + 1) (down (p * q) tera) (up (p' * q') tera)
          (power_most up_bounded p' q' most_power q'≤ p'≤)
          (power_gap 3 2 2 p q p' q' (lit≤ tt) p'≤ q≤ near q-near),
    )

thirteen_terms_gap : (p p' : ℕ) → p ≤ most_power → p' ≤ most_power → p' ≤ p + 1 → thirteen_terms up p' ≤ thirteen_terms down p + 78
unfolding thirteen_terms
thirteen_terms_gap p p' p≤ p'≤ near =
    le_trans
    (series_gap (down (p * p) tera) (up (p' * p') tera)
    (power_most down_bounded p p most_power (le_trans p≤ most_power≤tera) p≤)
    (le_trans (power_most up_bounded p' p' most_power (le_trans p'≤ most_power≤tera) p'≤) most_power≤tera)
    (power_gap 1 1 1 p p p' p' (lit≤ tt) p'≤ p≤ near near)
    term_count 0 p p' p'≤ (omega arith))
    (add-le-add (le_refl _) (lit≤ tt))

first_power_gap : (a b : ℕ) → 0 < b → b ≤ a → first_power up a b ≤ first_power down a b + 1
unfolding first_power
first_power_gap a b b>0 b≤a = up_le_suc_down ((a - doubled a b) * tera) {b = a + doubled a b} (omega arith)

pub log_gap : (a b : ℕ) → 0 < b → b ≤ a → a < 32768 * b → log_high a b ≤ log_low a b + 100
unfolding log_high log_low ln2_high ln2_low
log_gap a b b>0 b≤a a< =
    omega (
      arith,
      thirteen_terms_gap (first_power down a b) (first_power up a b)
          (first_power_most down_bounded a b b>0 b≤a)
          (first_power_most up_bounded a b b>0 b≤a)
          (first_power_gap a b b>0 b≤a),
      octaves_most a b b>0 b≤a a<,
    )
