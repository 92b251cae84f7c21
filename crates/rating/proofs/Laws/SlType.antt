-- Arrangement 5: what its armour adds to a case's facts, and S and W in their ranges and close to their exact values. Assumes nothing.
use Rattle.std.proofs.Math.Path.{refl}
use Rattle.std.specs.Prelude.{List, ℕ, ◌*◌, ◌≤◌, leb, pos, neg_ℤ}
use Rattle.std.proofs.Common.{arith, lit≤, leb-true}
use Rattle.bools.proofs.Laws.Tests.{both}
use Rattle.exact.specs.Fraction.{whole}
use Rattle.exact.proofs.Laws.Fraction.{whole_mono}
use Rattle.exact.specs.Error.{Within}
use Rattle.exact.proofs.Laws.Error.{within_weaken}
use Rattle.formulas.specs.Laws.Bounds.{least_sheath_resistance, most_armour_loss, most_resistance}
use Rattle.formulas.specs.Sheath.{sl_loss, sl_loss*}
use Rattle.formulas.specs.Armour.{armour_loss, armour_loss*}
use Rattle.formulas.proofs.Laws.Ranges as Law
use Rattle.formulas.specs.Laws.Ranges.{In}
use Rattle.formulas.proofs.Laws.TableRange.{coefficient_most}
use Rattle.formulas.proofs.Laws.CloseSheath.{sl_close}
use Rattle.formulas.proofs.Laws.CloseArmour.{armour_close}
use Rattle.fields.specs.Fields as Field
use Rattle.rating.specs.Values.{Rs, RA, B, X, XLow}
use Rattle.rating.specs.Chosen.{Chosen, B*, X*}
use Rattle.rating.specs.SlType.{armour_limits, sl_type}
use Rattle.rating.specs.Allowed.{Allowed}
use Rattle.rating.specs.Laws.Sound.{InZ, Alternating}
use Rattle.rating.proofs.Laws.Sound.{in_range, in_range_z}
use Rattle.rating.specs.Laws.Fit.{Fit}
use Rattle.rating.proofs.Laws.Ranges.{Rs_range, X_range, X_low_range, conductors_apart}
use Rattle.rating.proofs.Laws.Close.{X_close, X_low_close}
use Rattle.rating.proofs.Laws.Arrangement.{Lawful, three_in_range}

pub record Armoured (x : List ℕ) : Type 0 where
  pub metal : In 1 6 (Field.armour_metal x)
  pub resistance : In 1000 20000000 (Field.armour_resistance x)
  pub temperature : InZ (neg_ℤ (pos 4000)) (pos 25000) (Field.armour_temperature x)
  pub diameter : In 100 50000 (Field.armour_diameter x)
  pub distance : 2 * Field.axis_distance x ≤ Field.armour_diameter x
  pub apart : Field.sheath_diameter x ≤ Field.spacing x

pub sl_alternating : {x : List ℕ} → Fit sl_type x → Alternating x
unfolding sl_type
sl_alternating fit = fit.alternating refl

pub armoured : {x : List ℕ} → Fit sl_type x → Armoured x
unfolding sl_type armour_limits
armoured {x} fit =
    let diameter = both _ _ fit.limits in
    let distance = both _ _ diameter.0 in
    let temperature = both _ _ distance.0 in
    let metal = both _ _ temperature.0 in
    let places =
    both (leb (Field.sheath_diameter x) (Field.spacing x)) (leb (2 * Field.axis_distance x) (Field.armour_diameter x)) fit.geometry
    in
    record {
      metal = in_range _ _ _ metal.0;
      resistance = in_range _ _ _ metal.1;
      temperature = in_range_z _ _ _ temperature.1;
      diameter = in_range _ _ _ diameter.1;
      distance = leb-true _ _ places.1;
      apart = leb-true _ _ places.0;
    }

module _ {x : List ℕ} (fit : Fit sl_type x) where
  known : Armoured x
  known = armoured fit

  ac : Alternating x
  ac = sl_alternating fit

  spaced : Field.conductor_diameter x ≤ Field.spacing x
  spaced = conductors_apart fit.sound ac known.apart

  pub RA_range : In least_sheath_resistance most_resistance (RA x)
  unfolding RA
  RA_range =
      Law.resistance_range 1000 20000000 (Field.armour_temperature x) known.resistance (coefficient_most (Field.armour_metal x))
      known.temperature.least
      known.temperature.most

  W_most : armour_loss (RA x) (B x) (Field.axis_distance x) (Field.armour_diameter x) (XLow x) (Rs x) ≤ most_armour_loss
  unfolding armour_loss
  W_most =
      Law.screened_loss_most (XLow x) (Rs x)
      (Law.unscreened_loss_most (B x) (Field.axis_distance x) RA_range.most (omega (arith, known.diameter)) known.distance)

  module _ {c : Chosen} (allowed : Allowed sl_type x c) where
    S_close : Within 40000 (whole 2000) (sl_loss* (X* x c) (Rs x)) (whole (sl_loss (X x) (Rs x)))
    unfolding sl_type
    S_close =
        within_weaken (lit≤ tt) (whole_mono (lit≤ tt))
        (sl_close (X_range ac known.apart).least (Rs_range ac) (X_close allowed refl fit.sound ac refl known.apart))

    W_close :
        Within 40000 (whole 2000)
        (armour_loss* (RA x) (B* x c) (Field.axis_distance x) (Field.armour_diameter x) (X* x c) (Rs x))
        (whole (armour_loss (RA x) (B x) (Field.axis_distance x) (Field.armour_diameter x) (XLow x) (Rs x)))
    unfolding sl_type B* B
    W_close =
        within_weaken (lit≤ tt) (whole_mono (lit≤ tt))
        (armour_close (Field.axis_distance x) (allowed.pi refl) ac.frequency RA_range (omega (arith, known.diameter)) known.distance
        (X_low_range ac known.apart).least
        (Rs_range ac)
        (X_low_close allowed refl fit.sound ac refl known.apart))

pub sl_type_lawful : Lawful sl_type
unfolding sl_type
sl_type_lawful =
    record {
      reacts = λ reactive. refl;
      eddies = λ tried. refl;
      apart = λ {x} reactive placed. leb-true _ _ (both (leb (Field.sheath_diameter x) (Field.spacing x)) _ placed).0;
      spaced = λ alternates fit. spaced fit;
      n = λ known. three_in_range;
      S = λ {x} fit. Law.sl_loss_most (X x) (Rs_range (sl_alternating fit)).most;
      W = W_most;
      S_close = λ allowed fit. S_close fit allowed;
      W_close = λ allowed fit. W_close fit allowed;
    }
