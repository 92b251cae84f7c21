-- What stage 10 is proved from: E and d0 close to their exact values, and what refusals 10 and 11 leave. Assumes nothing.
use Rattle.std.specs.Prelude.{◌≡◌, ℕ, ◌+◌, ◌*◌, ◌≤◌}
use Rattle.exact.specs.Fraction.{Fraction, whole}
use Rattle.exact.specs.Error.{Within}
use Rattle.formulas.specs.Laws.Current.{IsRating}

-- E and d0 with their exact values, N and the permitted rise P, and the rating i that refusals 10 and 11 let pass
pub record Stage10 (e* d0* : Fraction) (e d0 n p i : ℕ) : Type 0 where
  pub e_close : Within 160000 (whole 0) e* (whole e)
  pub d0_close : Within 2500 (whole 2) d0* (whole d0)
  pub left : n + d0 ≡ p
  pub shares : 10 * d0 ≤ 9 * p
  pub warm : 5000000000 ≤ p
  pub rating : IsRating n e i
  pub most : i ≤ 5000000
