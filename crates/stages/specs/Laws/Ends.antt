-- What an end of pi, of a logarithm and of what they make is, stated once over the rounding; and that both ends are so. Assumes nothing.
use Rattle.std.specs.Prelude.{◌≡◌, refl, ℕ, zero, suc, ◌+◌, ◌*◌, ◌≤◌, ◌<◌}
use Rattle.std.proofs.Common.{ap, arith, le_refl, lit≤}
use Rattle.exact.specs.Rounding.{up, down}
use Rattle.exact.specs.Trillion.{trillion}
use Rattle.exact.proofs.Laws.Rounding.{up_only, down_only}
use Rattle.formulas.specs.Constants.{tera, pi_low, pi_high, ln2_low, ln2_high, ln2_third_low, ln2_third_high}
use Rattle.formulas.specs.Logarithm.{octaves, series, first_power, thirteen_terms, log_low, log_high}
use Rattle.formulas.specs.Reactance.{reactance, reactance_low}
use Rattle.formulas.specs.Spacing.{third_of, sheath_reactance, sheath_reactance_low, spacing_log_high, spacing_log_low}
use Rattle.formulas.specs.Laws.Bounds.{most_log}
use Rattle.formulas.proofs.Laws.LogRange.{log_high_most, log_low_most}

-- Stage 2, with an end of pi.

pub record ReactanceLaws (round : ℕ → ℕ → ℕ) (reactance : ℕ → ℕ) (pi : ℕ) : Type 0 where
  pub reactance_is : (f : ℕ) → reactance f ≡ round (f * pi) 250
  pub pi_most : pi ≤ 31415926536

pub reactance_laws : ReactanceLaws up reactance 31415926536
unfolding reactance pi_high
reactance_laws = record { reactance_is = λ f. refl; pi_most = lit≤ tt }

pub reactance_low_laws : ReactanceLaws down reactance_low 31415926535
unfolding reactance_low pi_low
reactance_low_laws = record { reactance_is = λ f. refl; pi_most = lit≤ tt }

-- Stage 5. The next power of `fixed` is `fixed` again, and so is each of its terms after the first, if it is 0 or the ratio is above 0.

pub record LogLaws (round log : ℕ → ℕ → ℕ) (remainder ln2 fixed : ℕ) : Type 0 where
  pub log_is : (a b : ℕ) → log a b ≡ thirteen_terms round (first_power round a b) + remainder + ln2 * octaves a b
  pub log_most : (a b : ℕ) → 0 < b → b ≤ a → a < 32768 * b → log a b ≤ most_log
  pub remainder_most : remainder ≤ 1
  pub ln2_most : ln2 ≤ 693147180560
  pub fixed_most : fixed ≤ 1
  pub fixed_terms : (q n j : ℕ) → (0 < fixed → 0 < q) → q ≤ trillion → 0 < j → series round q n j fixed ≡ fixed * n

ones_left : (q n j : ℕ) → (0 < 1 → 0 < q) → q ≤ trillion → 0 < j → series up q n j 1 ≡ 1 * n
unfolding series tera
ones_left q zero j q>0 q≤ j>0 = refl
ones_left q (suc n) j q>0 q≤ j>0 =
    let term = up_only (2 * 1) (2 * j + 1) 1 (omega arith) (omega arith) in
    let next = up_only (1 * q) trillion 1 (omega (arith, q>0 (le_refl 1))) (omega (arith, q>0 (le_refl 1))) in
    omega (arith, term, ap (λ p. series up q n (j + 1) p) next, ones_left q n (j + 1) q>0 q≤ (omega arith))

none_left : (q n j : ℕ) → (0 < 0 → 0 < q) → q ≤ trillion → 0 < j → series down q n j 0 ≡ 0 * n
unfolding series tera
none_left q zero j q>0 q≤ j>0 = refl
none_left q (suc n) j q>0 q≤ j>0 =
    let term = down_only (2 * 0) (2 * j + 1) 0 (omega arith) (omega arith) in
    let next = down_only (0 * q) trillion 0 (omega arith) (omega arith) in
    omega (arith, term, ap (λ p. series down q n (j + 1) p) next, none_left q n (j + 1) q>0 q≤ (omega arith))

pub log_high_laws : LogLaws up log_high 1 693147180560 1
unfolding log_high ln2_high
log_high_laws =
    record {
      log_is = λ a b. refl;
      log_most = log_high_most;
      remainder_most = lit≤ tt;
      ln2_most = lit≤ tt;
      fixed_most = lit≤ tt;
      fixed_terms = ones_left;
    }

pub log_low_laws : LogLaws down log_low 0 693147180559 0
unfolding log_low ln2_low
log_low_laws =
    record {
      log_is = λ a b. omega arith;
      log_most = log_low_most;
      remainder_most = lit≤ tt;
      ln2_most = lit≤ tt;
      fixed_most = lit≤ tt;
      fixed_terms = none_left;
    }

-- Stage 6, with an end of a third of ln 2.

pub record SpacingLaws (round log : ℕ → ℕ → ℕ) (spacing_log : ℕ → ℕ → ℕ → ℕ) (sheath_reactance : ℕ → ℕ → ℕ) (third : ℕ) : Type 0 where
  pub spacing_log_is : (arrangement s d : ℕ) → spacing_log arrangement s d ≡ log (2 * s) d + third_of arrangement third
  pub sheath_reactance_is : (b l : ℕ) → sheath_reactance b l ≡ round (b * l) trillion
  pub third_most : third ≤ trillion

pub spacing_high_laws : SpacingLaws up log_high spacing_log_high sheath_reactance 231049060187
unfolding spacing_log_high ln2_third_high sheath_reactance tera
spacing_high_laws = record { spacing_log_is = λ arrangement s d. refl; sheath_reactance_is = λ b l. refl; third_most = lit≤ tt }

pub spacing_low_laws : SpacingLaws down log_low spacing_log_low sheath_reactance_low 231049060186
unfolding spacing_log_low ln2_third_low sheath_reactance_low tera
spacing_low_laws = record { spacing_log_is = λ arrangement s d. refl; sheath_reactance_is = λ b l. refl; third_most = lit≤ tt }
