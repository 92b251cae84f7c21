-- Arrangements 1 and 2: the current that circulates through the sheaths loses no more than they can, and S is close to its exact value.
-- Assumes nothing.
use Rattle.std.specs.Prelude.{refl, List, ℕ, ◌≤◌}
use Rattle.std.proofs.Common.{arith, lit≤, leb-true}
use Rattle.exact.specs.Fraction.{whole}
use Rattle.exact.proofs.Laws.Fraction.{whole_mono}
use Rattle.exact.specs.Error.{Within}
use Rattle.exact.proofs.Laws.Error.{within_weaken}
use Rattle.formulas.specs.Laws.Bounds.{most_sheath_loss}
use Rattle.formulas.specs.Sheath.{circulating_loss, circulating_loss*}
use Rattle.formulas.proofs.Laws.Ranges.{circulating_loss_most}
use Rattle.formulas.proofs.Laws.CloseSheath.{circulating_close}
use Rattle.fields.specs.Fields as Field
use Rattle.rating.specs.Values.{Rs, X}
use Rattle.rating.specs.Chosen.{Chosen, X*}
use Rattle.rating.specs.BothEnds.{both_ends}
use Rattle.rating.specs.Allowed.{Allowed}
use Rattle.rating.specs.Laws.Sound.{Alternating}
use Rattle.rating.specs.Laws.Fit.{Fit}
use Rattle.rating.proofs.Laws.Ranges.{Rs_range, X_range, conductors_apart}
use Rattle.rating.proofs.Laws.Close.{X_close}
use Rattle.rating.proofs.Laws.Arrangement.{Lawful, one_core, none_lost}

pub both_ends_apart : {x : List ℕ} → Fit both_ends x → Field.sheath_diameter x ≤ Field.spacing x
unfolding both_ends
both_ends_apart fit = leb-true _ _ fit.geometry

pub both_ends_alternating : {x : List ℕ} → Fit both_ends x → Alternating x
unfolding both_ends
both_ends_alternating fit = fit.alternating refl

spaced : {x : List ℕ} → Fit both_ends x → Field.conductor_diameter x ≤ Field.spacing x
spaced fit = conductors_apart fit.sound (both_ends_alternating fit) (both_ends_apart fit)

S_most : {x : List ℕ} → Fit both_ends x → circulating_loss (X x) (Rs x) ≤ most_sheath_loss
S_most {x} fit = omega (arith, circulating_loss_most (X x) (Rs x), Rs_range (both_ends_alternating fit))

S_close :
    {x : List ℕ} {c : Chosen} → Allowed both_ends x c → Fit both_ends x →
    Within 40000 (whole 2000) (circulating_loss* (X* x c) (Rs x)) (whole (circulating_loss (X x) (Rs x)))
unfolding both_ends
S_close allowed fit =
    let ac = both_ends_alternating fit in
    let apart = both_ends_apart fit in
    within_weaken (lit≤ tt) (whole_mono (lit≤ tt))
    (circulating_close (X_range ac apart).least (Rs_range ac) (X_close allowed refl fit.sound ac refl apart))

pub both_ends_lawful : Lawful both_ends
unfolding both_ends
both_ends_lawful =
    record {
      reacts = λ reactive. refl;
      eddies = λ tried. refl;
      apart = λ reactive placed. leb-true _ _ placed;
      spaced = λ alternates fit. spaced fit;
      n = λ known. one_core;
      S = S_most;
      W = λ fit. lit≤ tt;
      S_close = S_close;
      W_close = λ allowed fit. none_lost;
    }
