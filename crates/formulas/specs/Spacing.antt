-- docs/RATING.md, stage 6: the logarithm of the spacing, and the sheath's reactance. Assumes nothing.
use Rattle.std.specs.Prelude.{cond, ℕ, ◌+◌, ◌*◌, eqb}
use Rattle.exact.specs.Rounding.{up, down}
use Rattle.exact.specs.Fraction.{Fraction, whole, ◌+F◌, ◌*F◌, ◌/F◌}
use Rattle.formulas.specs.Constants.{tera, ln2_third_low, ln2_third_high}
use Rattle.formulas.specs.Logarithm.{log_low, log_high}

-- what an arrangement adds to the logarithm of 2s/d: arrangement 2 a third of ln 2
abbrev pub third_of : ℕ → ℕ → ℕ
third_of arrangement third = cond (eqb arrangement 2) third 0

-- the paper's L, its upper and its lower end
unfoldable pub spacing_log_high : ℕ → ℕ → ℕ → ℕ
spacing_log_high arrangement s d = log_high (2 * s) d + third_of arrangement ln2_third_high

unfoldable pub spacing_log_low : ℕ → ℕ → ℕ → ℕ
spacing_log_low arrangement s d = log_low (2 * s) d + third_of arrangement ln2_third_low

-- the paper's X, from B and the upper end of L
unfoldable pub sheath_reactance : ℕ → ℕ → ℕ
sheath_reactance b l = up (b * l) tera

-- the paper's X-, from B- and the lower end of L
unfoldable pub sheath_reactance_low : ℕ → ℕ → ℕ
sheath_reactance_low b l = down (b * l) tera

-- from a logarithm of 2s/d and an ln 2
unfoldable pub spacing_log* : ℕ → Fraction → Fraction → Fraction
spacing_log* arrangement log ln2 = cond (eqb arrangement 2) (log +F ln2 /F whole 3) log

unfoldable pub sheath_reactance* : Fraction → Fraction → Fraction
sheath_reactance* b l = b *F l
