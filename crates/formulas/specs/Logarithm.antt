-- docs/RATING.md, stage 5: the two ends of the natural logarithm of a/b, for a ≥ b, over T. Assumes nothing.
use Rattle.std.specs.Prelude.{cond, ℕ, zero, suc, ◌+◌, ◌-◌, ◌*◌, ◌^◌, leb}
use Rattle.exact.specs.Rounding.{up, down}
use Rattle.exact.specs.Fraction.{Fraction, ◌over◌, whole, ◌+F◌, ◌/F◌}
use Rattle.formulas.specs.Constants.{tera, ln2_low, ln2_high, Between}

-- how often b can be doubled and stay at most a, tried at most `most` times
unfoldable pub doublings : ℕ → ℕ → ℕ → ℕ
doublings zero a b = 0
doublings (suc most) a b = let more = suc (doublings most a (2 * b)) in cond (leb (2 * b) a) more 0

-- the paper's k: the largest with 2^k b ≤ a, for b above 0
unfoldable pub octaves : ℕ → ℕ → ℕ
unfolding doublings
octaves a b = doublings a a b

-- b doubled k times
unfoldable pub doubled : ℕ → ℕ → ℕ
doubled a b = 2 ^ octaves a b * b

-- the sum of round(2p/(2j + 1)) over `terms` terms from j on, where each next p is round(p q/T)
unfoldable pub series : (ℕ → ℕ → ℕ) → ℕ → ℕ → ℕ → ℕ → ℕ
series round q zero j p = 0
series round q (suc terms) j p = round (2 * p) (2 * j + 1) + series round q terms (j + 1) (round (p * q) tera)

-- the paper's p0, and from it q
unfoldable pub first_power : (ℕ → ℕ → ℕ) → ℕ → ℕ → ℕ
first_power round a b = round ((a - doubled a b) * tera) (a + doubled a b)

-- the paper's j = 0 to 12
abbrev pub term_count : ℕ
term_count = 13

-- the paper's sum over them
unfoldable pub thirteen_terms : (ℕ → ℕ → ℕ) → ℕ → ℕ
unfolding series
thirteen_terms round p = series round (round (p * p) tera) term_count 0 p

unfoldable pub log_low : ℕ → ℕ → ℕ
log_low a b = thirteen_terms down (first_power down a b) + ln2_low * octaves a b

unfoldable pub log_high : ℕ → ℕ → ℕ
log_high a b = thirteen_terms up (first_power up a b) + 1 + ln2_high * octaves a b

-- what may stand for the logarithm of a/b
abbrev pub IsLog : ℕ → ℕ → Fraction → Type 0
IsLog a b x = Between (log_low a b) (log_high a b) tera x

-- the paper's ζ
unfoldable pub zeta : ℕ → ℕ → Fraction
zeta a b = a - doubled a b over a + doubled a b

-- 2x^(2j + 1)/(2j + 1)
unfoldable pub artanh_term : Fraction → ℕ → Fraction
artanh_term x j = 2 * x.num ^ (2 * j + 1) over (2 * j + 1) * x.den ^ (2 * j + 1)

-- the sum of the first n exact terms of 2 artanh x
unfoldable pub artanh_sum : Fraction → ℕ → Fraction
artanh_sum x zero = whole 0
artanh_sum x (suc n) = artanh_sum x n +F artanh_term x n

-- 2x^(2n + 1)/((2n + 1)(1 - x²)), which is not less than all the terms that the first n leave out
unfoldable pub artanh_rest : Fraction → ℕ → Fraction
artanh_rest x n = artanh_term x n /F (x.den ^ 2 - x.num ^ 2 over x.den ^ 2)
