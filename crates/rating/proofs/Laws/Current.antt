-- R and Wd of a case by its current, whichever arrangement it has: in their ranges and close to their exact values. Assumes nothing.
use Rattle.std.specs.Prelude.{◌≡◌, true, cond, List, ℕ, ◌≤◌}
use Rattle.std.proofs.Common.{arith, lit≤}
use Rattle.bools.proofs.Laws.Tests.{by_outcome, either_by}
use Rattle.exact.specs.Fraction.{whole}
use Rattle.exact.specs.Error.{Within}
use Rattle.exact.proofs.Laws.Error.{within_itself}
use Rattle.formulas.specs.Laws.Bounds.{least_conductor_resistance, most_ac_resistance, most_dielectric_loss}
use Rattle.formulas.specs.Laws.Ranges.{In}
use Rattle.fields.specs.Fields as Field
use Rattle.rating.specs.Values.{R', R, Wd}
use Rattle.rating.specs.Chosen.{Chosen, R*, Wd*}
use Rattle.rating.specs.Arrangements.{own}
use Rattle.rating.specs.Current.{R_of, Wd_of, R_of*, Wd_of*}
use Rattle.rating.specs.Allowed.{Allowed}
use Rattle.rating.specs.Laws.Fit.{Fit}
use Rattle.rating.proofs.Laws.Ranges.{R'_range, R_range, Wd_most}
use Rattle.rating.proofs.Laws.Close.{R_close, Wd_close}
use Rattle.rating.proofs.Laws.Arrangements.{lawful}

module _ {x : List ℕ} (fit : Fit (own x) x) where
  pub spaced : (own x).alternates ≡ true → Field.conductor_diameter x ≤ Field.spacing x
  spaced ac = (lawful (Field.arrangement x)).spaced ac fit

  pub R_of_range : In least_conductor_resistance most_ac_resistance (R_of x)
  unfolding R_of
  R_of_range =
      let r = R'_range fit.sound in
      either_by (In least_conductor_resistance most_ac_resistance) (own x).alternates
      (λ ac. R_range fit.sound (fit.alternating ac) (fit.skin ac) (fit.proximity ac) (spaced ac))
      (λ direct. record { least = r.least; most = omega (arith, r.most) })

  pub Wd_of_most : Wd_of x ≤ most_dielectric_loss
  unfolding Wd_of
  Wd_of_most =
      either_by (λ wd. wd ≤ most_dielectric_loss) (own x).alternates (λ ac. Wd_most fit.sound (fit.alternating ac)) (λ direct. lit≤ tt)

  -- in direct current both are exact
  module _ {c : Chosen} (allowed : Allowed (own x) x c) where
    pub R_of_close : Within 40000 (whole 0) (R_of* x c) (whole (R_of x))
    unfolding R_of* R_of
    R_of_close =
        by_outcome (λ t. Within 40000 (whole 0) (cond t (R* x c) (whole (R' x))) (whole (cond t (R x) (R' x)))) (own x).alternates
        (λ ac. R_close allowed ac fit.sound (fit.alternating ac) (fit.skin ac) (fit.proximity ac) (spaced ac))
        (λ direct. within_itself (R' x))

    pub Wd_of_close : Within 2200 (whole 1) (Wd_of* x c) (whole (Wd_of x))
    unfolding Wd_of* Wd_of
    Wd_of_close =
        by_outcome (λ t. Within 2200 (whole 1) (cond t (Wd* x c) (whole 0)) (whole (cond t (Wd x) 0))) (own x).alternates
        (λ ac. Wd_close allowed ac fit.sound (fit.alternating ac))
        (λ direct. within_itself 0)
