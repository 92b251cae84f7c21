-- docs/RATING.md, 'The refusals': those that look at the stages, 8 to 11, each as a test of the numbers that it names.
-- Assumes nothing.
use Rattle.std.specs.Prelude.{Bool, ◌||◌, ℕ, ◌*◌, ◌^◌, ltb}

-- the largest z that the formulas of stages 3 and 4 are for: the standard's x up to 2.8
abbrev pub skin_limit : ℕ
skin_limit = 784 * 10 ^ 10

-- 8: z over the limit, with ks or kp
unfoldable pub skin_refused : ℕ → ℕ → Bool
skin_refused zs zp = ltb skin_limit zs || ltb skin_limit zp

-- 9, in arrangements 3 and 4: 5B > Rs
unfoldable pub eddy_refused : ℕ → ℕ → Bool
eddy_refused b rs = ltb rs (5 * b)

-- 10: 10 d0 is more than nine times the permitted rise
unfoldable pub dielectric_refused : ℕ → ℕ → Bool
dielectric_refused d0 permitted = ltb (9 * permitted) (10 * d0)

-- 11: the rating would exceed 5000000 mA
unfoldable pub current_refused : ℕ → Bool
current_refused i = ltb 5000000 i
