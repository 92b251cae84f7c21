-- docs/RATING.md, stage 10: the rise that a current causes, and the rating. It takes n, R, S, W and T1 to T4 alone, so that every
-- arrangement shares it. Assumes nothing.
use Rattle.std.specs.Prelude.{ℕ, ◌+◌, ◌*◌, ◌^◌}
use Rattle.exact.specs.Rounding.{up, down}
use Rattle.exact.specs.Root.{root}
use Rattle.exact.specs.Fraction.{Fraction, whole, ◌+F◌, ◌*F◌, ◌/F◌, square}

-- the paper's E, in 10^-16 K/A². t4 is in 10^-9 K·m/W, and the other three in 10^-6.
unfoldable pub unit_rise : ℕ → ℕ → ℕ → ℕ → ℕ → ℕ → ℕ → ℕ → ℕ
unit_rise n r s w t1 t2 t3 t4 =
    up (r * t1) (10 ^ 6) + up (n * (r + s) * t2) (10 ^ 6) + up (n * (r + s + w) * (1000 * t3 + t4)) (10 ^ 9)

-- the largest I with I² E ≤ 10^13 N, in mA, from N and E
unfoldable pub rating : ℕ → ℕ → ℕ
rating N E = root (down (10 ^ 13 * N) E)

unfoldable pub unit_rise* : ℕ → Fraction → Fraction → Fraction → ℕ → ℕ → ℕ → ℕ → Fraction
unit_rise* n r s w t1 t2 t3 t4 =
    r *F whole t1 /F whole (10 ^ 6)
    +F whole n *F (r +F s) *F whole t2 /F whole (10 ^ 6)
    +F whole n *F (r +F s +F w) *F whole (1000 * t3 + t4) /F whole (10 ^ 9)

-- the exact rise at a current in mA, in 10^-9 K, from E and d0
unfoldable pub rise* : Fraction → Fraction → Fraction → Fraction
rise* I E d0 = square I *F E /F whole (10 ^ 13) +F d0
