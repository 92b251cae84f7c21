-- Arrangements 3 and 4: refusal 9 bounds what the eddies lose, and S is close to its exact value. Assumes nothing.
use Rattle.std.proofs.Common.{leb-true}
use Rattle.std.proofs.Math.Path.{refl}
use Rattle.std.specs.Prelude.{List, ℕ, ◌*◌, ◌≤◌}
use Rattle.std.proofs.Common.{arith, lit≤}
use Rattle.exact.specs.Fraction.{whole}
use Rattle.exact.proofs.Laws.Fraction.{whole_mono}
use Rattle.exact.specs.Error.{Within}
use Rattle.exact.proofs.Laws.Error.{within_weaken}
use Rattle.formulas.specs.Laws.Bounds.{most_sheath_loss}
use Rattle.formulas.specs.Sheath.{eddy_loss, eddy_loss*}
use Rattle.formulas.proofs.Laws.Ranges.{eddy_loss_most}
use Rattle.formulas.proofs.Laws.CloseEddy.{eddy_close}
use Rattle.fields.specs.Fields as Field
use Rattle.rating.specs.Values.{Rs, B}
use Rattle.rating.specs.Chosen.{Chosen, B*}
use Rattle.rating.specs.OnePoint.{one_point}
use Rattle.rating.specs.Allowed.{Allowed}
use Rattle.rating.specs.Laws.Sound.{Alternating}
use Rattle.rating.specs.Laws.Fit.{Fit}
use Rattle.rating.proofs.Laws.Ranges.{Rs_range, conductors_apart}
use Rattle.rating.proofs.Laws.Arrangement.{Lawful, one_core, none_lost}

module _ (j : ℕ) where
  pub one_point_apart : {x : List ℕ} → Fit (one_point j) x → Field.sheath_diameter x ≤ Field.spacing x
  unfolding one_point
  one_point_apart fit = leb-true _ _ fit.geometry

  pub eddies_small : {x : List ℕ} → Fit (one_point j) x → 5 * B x ≤ Rs x
  unfolding one_point
  eddies_small fit = fit.eddies refl

  pub one_point_alternating : {x : List ℕ} → Fit (one_point j) x → Alternating x
  unfolding one_point
  one_point_alternating fit = fit.alternating refl

  spaced : {x : List ℕ} → Fit (one_point j) x → Field.conductor_diameter x ≤ Field.spacing x
  spaced fit = conductors_apart fit.sound (one_point_alternating fit) (one_point_apart fit)

  module _ (j≤ : j ≤ 2) where
    S_most : {x : List ℕ} → Fit (one_point j) x → eddy_loss j (B x) (Rs x) (Field.sheath_diameter x) (Field.spacing x) ≤ most_sheath_loss
    S_most {x} fit =
        let ac = one_point_alternating fit in
        eddy_loss_most (B x) j≤
        (omega (arith, Rs_range ac))
        (Rs_range ac).most
        (eddies_small fit)
        (omega (arith, ac.spacing))
        (one_point_apart fit)

    S_close :
        {x : List ℕ} {c : Chosen} → Allowed (one_point j) x c → Fit (one_point j) x →
        Within 40000 (whole 2000)
        (eddy_loss* j (B* x c) (Rs x) (Field.sheath_diameter x) (Field.spacing x))
        (whole (eddy_loss j (B x) (Rs x) (Field.sheath_diameter x) (Field.spacing x)))
    unfolding one_point B* B
    S_close allowed fit =
        let ac = one_point_alternating fit in
        within_weaken (lit≤ tt) (whole_mono (lit≤ tt))
        (eddy_close (allowed.pi refl) ac.frequency (Rs_range ac) (eddies_small fit) j≤
        (omega (arith, ac.sheath_diameter))
        (one_point_apart fit))

    pub one_point_lawful : Lawful (one_point j)
    unfolding one_point
    one_point_lawful =
        record {
          reacts = λ reactive. refl;
          eddies = λ tried. refl;
          apart = λ reactive placed. leb-true _ _ placed;
          spaced = λ alternates fit. spaced fit;
          n = λ known. one_core;
          S = S_most;
          W = λ fit. lit≤ tt;
          S_close = S_close;
          W_close = λ allowed fit. none_lost;
        }
