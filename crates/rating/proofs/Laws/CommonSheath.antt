-- Arrangement 6: the cores lie within their sheath, which bounds what its eddies lose, and S is close to its exact value. Assumes nothing.
use Rattle.std.proofs.Common.{leb-true}
use Rattle.std.proofs.Math.Path.{refl}
use Rattle.std.proofs.lemmas.Bool.{false≢true}
use Rattle.std.specs.Prelude.{List, ℕ, ◌*◌, ◌≤◌, ◌<◌, leb}
use Rattle.std.proofs.Common.{le_trans, arith, lit≤}
use Rattle.bools.proofs.Laws.Tests.{both}
use Rattle.exact.specs.Fraction.{whole}
use Rattle.exact.proofs.Laws.Fraction.{whole_mono}
use Rattle.exact.specs.Error.{Within}
use Rattle.exact.proofs.Laws.Error.{within_weaken}
use Rattle.formulas.specs.Laws.Bounds.{most_sheath_loss}
use Rattle.formulas.specs.CommonSheath.{common_loss, common_loss*}
use Rattle.formulas.proofs.Laws.Ranges.{common_loss_most}
use Rattle.formulas.proofs.Laws.CloseCommonSheath.{common_close}
use Rattle.fields.specs.Fields as Field
use Rattle.rating.specs.Values.{Rs, B}
use Rattle.rating.specs.Chosen.{Chosen, B*}
use Rattle.rating.specs.CommonSheath.{common_sheath}
use Rattle.rating.specs.Allowed.{Allowed}
use Rattle.rating.specs.Laws.Sound.{Alternating}
use Rattle.rating.specs.Laws.Fit.{Fit}
use Rattle.rating.proofs.Laws.Ranges.{Rs_range, B_range}
use Rattle.rating.proofs.Laws.Arrangement.{Lawful, three_in_range, none_lost}

pub record Enclosed (x : List ℕ) : Type 0 where
  pub spaced : Field.conductor_diameter x ≤ Field.spacing x
  pub d>0 : 0 < Field.sheath_diameter x
  pub within_sheath : 2 * Field.axis_distance x ≤ Field.sheath_diameter x

module _ {x : List ℕ} (fit : Fit common_sheath x) where
  pub common_alternating : Alternating x
  unfolding common_sheath
  common_alternating = fit.alternating refl

  pub enclosed : Enclosed x
  unfolding common_sheath
  enclosed =
      let places =
      both (leb (Field.conductor_diameter x) (Field.spacing x)) (leb (2 * Field.axis_distance x) (Field.sheath_diameter x)) fit.geometry
      in
      record {
        spaced = leb-true _ _ places.0;
        d>0 = omega (arith, common_alternating.sheath_diameter);
        within_sheath = leb-true _ _ places.1;
      }

  S_most : common_loss (B x) (Rs x) (Field.axis_distance x) (Field.sheath_diameter x) ≤ most_sheath_loss
  S_most =
      le_trans
      (common_loss_most (Rs x) (Field.axis_distance x) (B_range common_alternating).most enclosed.d>0 enclosed.within_sheath)
      (lit≤ tt)

  S_close :
      {c : Chosen} → Allowed common_sheath x c →
      Within 40000 (whole 2000)
      (common_loss* (B* x c) (Rs x) (Field.axis_distance x) (Field.sheath_diameter x))
      (whole (common_loss (B x) (Rs x) (Field.axis_distance x) (Field.sheath_diameter x)))
  unfolding common_sheath B* B
  S_close allowed =
      let ac = common_alternating in
      within_weaken (lit≤ tt) (whole_mono (lit≤ tt))
      (common_close (Field.axis_distance x) (allowed.pi refl) ac.frequency (Rs_range ac).least enclosed.d>0 enclosed.within_sheath)

pub common_sheath_lawful : Lawful common_sheath
unfolding common_sheath
common_sheath_lawful =
    record {
      reacts = λ reactive. refl;
      eddies = λ tried. refl;
      apart = λ reactive placed. absurd (false≢true reactive);
      spaced = λ alternates fit. (enclosed fit).spaced;
      n = λ known. three_in_range;
      S = S_most;
      W = λ fit. lit≤ tt;
      S_close = λ allowed fit. S_close fit allowed;
      W_close = λ allowed fit. none_lost;
    }
