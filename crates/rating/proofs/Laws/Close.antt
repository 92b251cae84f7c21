-- R, X, X- and Wd of a case against their exact values, by the bounds of their formulas. Assumes nothing.
use Rattle.std.specs.Prelude.{◌≡◌, true, List, ℕ, ◌≤◌, ◌<◌}
use Rattle.std.proofs.Common.{arith, lit<, lit≤}
use Rattle.bools.proofs.Laws.Tests.{either_both}
use Rattle.exact.specs.Fraction.{whole}
use Rattle.exact.proofs.Laws.Fraction.{≤F_refl}
use Rattle.exact.specs.Error.{Within}
use Rattle.exact.proofs.Laws.Error.{within_itself, within_weaken}
use Rattle.formulas.specs.Refusals.{skin_limit}
use Rattle.formulas.proofs.Laws.TableRange.{ks_range, kp_range}
use Rattle.formulas.proofs.Laws.CloseProximity.{resistance_close}
use Rattle.formulas.proofs.Laws.CloseSpacing.{sheath_reactance_close}
use Rattle.formulas.proofs.Laws.CloseSpacingLow.{sheath_reactance_low_close}
use Rattle.formulas.proofs.Laws.CloseDielectric.{loss_close}
use Rattle.fields.specs.Fields as Field
use Rattle.rating.specs.Values.{B, zs, zp, ys, G, yp, R, X, XLow, Wd, loss_counts}
use Rattle.rating.specs.Chosen.{Chosen, B*, R*, X*, Wd*}
use Rattle.rating.specs.Arrangement.{Arrangement}
use Rattle.rating.specs.Allowed.{Allowed}
use Rattle.rating.specs.Laws.Sound.{Sound, Alternating}
use Rattle.rating.proofs.Laws.Ranges.{R'_range, insulation_ratio, spacing_ratio_below}

module _
    {a : Arrangement} {x : List ℕ} {c : Chosen} (allowed : Allowed a x c) (alternates : a.alternates ≡ true) (fine : Sound x)
    (ac : Alternating x) where
  pub R_close :
      zs x ≤ skin_limit → zp x ≤ skin_limit → Field.conductor_diameter x ≤ Field.spacing x →
      Within 40000 (whole 0) (R* x c) (whole (R x))
  unfolding R* R ys yp G zs zp
  R_close zs≤ zp≤ spaced =
      within_weaken (lit≤ tt) (≤F_refl (whole 0) (lit< tt))
      (resistance_close (allowed.pi alternates) ac.frequency (ks_range fine.conductor) (kp_range fine.conductor) (R'_range fine) zs≤ zp≤
      (omega (arith, ac.spacing))
      spaced)

  -- where it does not count, both are zero
  pub Wd_close : Within 2200 (whole 1) (Wd* x c) (whole (Wd x))
  unfolding Wd* Wd B* B
  Wd_close =
      either_both (λ wd* wd. Within 2200 (whole 1) wd* (whole wd)) (loss_counts x)
      (loss_close (Field.permittivity x) (Field.voltage x) (Field.loss_factor x) (allowed.pi alternates) ac.frequency
      (allowed.log_insulation alternates)
      (omega (arith, fine.screen_diameter))
      (omega (arith, fine.insulated))
      (insulation_ratio fine))
      (within_itself 0)

  -- where X is one of the arrangement's values and the sheaths do not overlap
  module _ (reactive : a.reactive ≡ true) (apart : Field.sheath_diameter x ≤ Field.spacing x) where
    d>0 : 0 < Field.sheath_diameter x
    d>0 = omega (arith, ac.sheath_diameter)

    pub X_close : Within 200 (whole 0) (X* x c) (whole (X x))
    unfolding X* B* X B
    X_close =
        sheath_reactance_close (Field.arrangement x) (allowed.pi alternates) (allowed.ln2 alternates) ac.frequency
        (allowed.log_spacing reactive)
        d>0
        apart
        (spacing_ratio_below ac apart)

    pub X_low_close : Within 6000 (whole 1) (whole (XLow x)) (X* x c)
    unfolding X* B* XLow
    X_low_close =
        within_weaken (lit≤ tt) (≤F_refl (whole 1) (lit< tt))
        (sheath_reactance_low_close (Field.arrangement x) (allowed.pi alternates) (allowed.ln2 alternates) ac.frequency
        (allowed.log_spacing reactive)
        d>0
        apart
        (spacing_ratio_below ac apart))
