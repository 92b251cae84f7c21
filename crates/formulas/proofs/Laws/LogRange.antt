-- How large stage 5's ends get: each is at most 18.4 T where a/b is below 2^15, and the lower one is at least 0.048 T where a/b is
-- 1.05 or more, so that stage 9 does not divide by too little. Assumes nothing.
use Rattle.std.proofs.Common.{ℕ, zero, suc, ◌+◌, ◌*◌, ◌^◌, ◌≤◌, ◌<◌, arith}
use Rattle.std.specs.Prelude.{◌≡◌, refl}
use Rattle.std.proofs.Common.{ap, ◌∙◌, le-add_right, one-mul, mul-le-mul, lt_of_mul-lt-mul_right, lt_of_le_of_lt, lt_of_not-le, lit<}
use Rattle.std.proofs.Common.{lit≤, pow_mono}
use Rattle.std.proofs.Math.Nat.{le_trans}
use Rattle.exact.specs.Rounding.{up, down}
use Rattle.exact.proofs.Laws.Rounding.{up_least, down_most, down_most_above}
use Rattle.exact.specs.Trillion.{trillion}
use Rattle.formulas.specs.Constants.{tera, ln2_low, ln2_high}
use Rattle.formulas.specs.Logarithm.{octaves, doubled, series, first_power, term_count, thirteen_terms, log_low, log_high}
use Rattle.formulas.proofs.Laws.Octaves.{Largest, octaves_largest}
use Rattle.formulas.proofs.Laws.LogEndsOrder.{log_ends_ordered}
use Rattle.formulas.specs.Laws.Bounds.{most_power, most_terms, most_log, least_insulation_log}

pub tera>0 : 0 < tera
unfolding tera
tera>0 = lit< tt

pub most_power≤tera : most_power ≤ tera
unfolding tera
most_power≤tera = lit≤ tt

-- a rounding that gives at most k for a quotient that is at most k, as both do
abbrev pub Bounded : (ℕ → ℕ → ℕ) → Type 0
Bounded round = (a k b : ℕ) → 0 < b → a ≤ k * b → round a b ≤ k

pub up_bounded : Bounded up
up_bounded a k b b>0 h = up_least a k b>0 h

pub down_bounded : Bounded down
down_bounded a k b b>0 h = down_most_above a k b>0 (omega arith)

module _ {round : ℕ → ℕ → ℕ} (bounded : Bounded round) where
  -- the next power is not above the last one
  pub power_most : (p q m : ℕ) → q ≤ tera → p ≤ m → round (p * q) tera ≤ m
  unfolding tera
  power_most p q m q≤ p≤ = bounded (p * q) m trillion (lit< tt) (mul-le-mul p≤ q≤)

  pub term_most : (p j m : ℕ) → p ≤ m → round (2 * p) (2 * j + 1) ≤ 2 * m
  term_most p j m p≤ = bounded (2 * p) (2 * m) (2 * j + 1) (omega arith) (omega arith)

  pub series_most : (q terms j p m : ℕ) → q ≤ tera → p ≤ m → series round q terms j p ≤ terms * (2 * m)
  unfolding series
  series_most q zero j p m q≤ p≤ = omega arith
  series_most q (suc terms) j p m q≤ p≤ =
      omega (arith, term_most p j m p≤, series_most q terms (j + 1) (round (p * q) tera) m q≤ (power_most p q m q≤ p≤))

  -- ζ is at most a third
  pub first_power_most : (a b : ℕ) → 0 < b → b ≤ a → first_power round a b ≤ most_power
  unfolding first_power doubled tera
  first_power_most a b b>0 b≤a =
      let k : Largest a b (octaves a b) = octaves_largest a b b>0 b≤a in
      bounded _ most_power (a + 2 ^ octaves a b * b) (omega arith) (omega arith)

  pub thirteen_terms_most : (p : ℕ) → p ≤ most_power → thirteen_terms round p ≤ most_terms
  unfolding thirteen_terms
  thirteen_terms_most p p≤ =
      le_trans
      (series_most (round (p * p) tera) term_count 0 p most_power
      (le_trans (power_most p p most_power (le_trans p≤ most_power≤tera) p≤) most_power≤tera)
      p≤)
      (lit≤ tt)

  -- what an end adds to its octaves
  pub terms_most : (a b : ℕ) → 0 < b → b ≤ a → thirteen_terms round (first_power round a b) ≤ most_terms
  terms_most a b b>0 b≤a = thirteen_terms_most (first_power round a b) (first_power_most a b b>0 b≤a)

pub octaves_most : (a b : ℕ) → 0 < b → b ≤ a → a < 32768 * b → octaves a b ≤ 14
octaves_most a b b>0 b≤a a< =
    let k : Largest a b (octaves a b) = octaves_largest a b b>0 b≤a in
    let powers : 2 ^ octaves a b < 2 ^ 15 = lt_of_mul-lt-mul_right b (lt_of_le_of_lt k.below a<) in
    omega (arith, lt_of_not-le {n = 15} {m = octaves a b} (λ 15≤. omega (arith, pow_mono 15≤)))

pub log_high_most : (a b : ℕ) → 0 < b → b ≤ a → a < 32768 * b → log_high a b ≤ most_log
unfolding log_high ln2_high
log_high_most a b b>0 b≤a a< = omega (arith, terms_most up_bounded a b b>0 b≤a, octaves_most a b b>0 b≤a a<)

pub log_low_most : (a b : ℕ) → 0 < b → b ≤ a → a < 32768 * b → log_low a b ≤ most_log
log_low_most a b b>0 b≤a a< = le_trans (log_ends_ordered a b) (log_high_most a b b>0 b≤a a<)

thirteen_terms_least : (p : ℕ) → 2 * p ≤ thirteen_terms down p
unfolding thirteen_terms series
thirteen_terms_least p =
    le_trans (down_most (2 * p) (2 * p) {b = 2 * 0 + 1} (lit< tt) (omega arith)) (le-add_right _ _)

first_power_least : (a b : ℕ) → 0 < b → 21 * b ≤ 20 * a → octaves a b ≡ 0 → 24390243902 ≤ first_power down a b
unfolding first_power doubled tera
first_power_least a b b>0 h none =
    let same : 2 ^ octaves a b * b ≡ b = ap (λ k. 2 ^ k * b) none ∙ one-mul b in
    down_most _ 24390243902 (omega arith) (omega arith)

pub log_low_least : (a b : ℕ) → 0 < b → 21 * b ≤ 20 * a → least_insulation_log ≤ log_low a b
unfolding log_low ln2_low
log_low_least a b b>0 h = go (octaves a b) refl
  where
    go : (k : ℕ) → octaves a b ≡ k → least_insulation_log ≤ log_low a b
    go zero none = omega (arith, first_power_least a b b>0 h none, thirteen_terms_least (first_power down a b))
    go (suc k) some = omega arith
