-- Arrangement 5: a three-core cable of SL type, a lead sheath on each core, in steel wire armour (docs/RATING.md, stages 7 and 8).
-- Assumes nothing.
use Rattle.std.specs.Prelude.{Bool, true, false, ◌&&◌, List, ℕ, ◌*◌, leb, eqb, pos, neg_ℤ}
use Rattle.std.specs.Int.Signed.{le_z}
use Rattle.formulas.specs.Sheath.{sl_loss, sl_loss*}
use Rattle.formulas.specs.Armour.{armour_loss, armour_loss*}
use Rattle.fields.specs.Fields as Field
use Rattle.rating.specs.Within.{within, within_z}
use Rattle.rating.specs.Values.{Rs, RA, B, X, XLow}
use Rattle.rating.specs.Chosen.{B*, X*}
use Rattle.rating.specs.Arrangement.{Arrangement, axis_limits}

-- fields 17 to 21
unfoldable pub armour_limits : List ℕ → Bool
armour_limits x =
    within 1 6 (Field.armour_metal x)
    && within 1000 20000000 (Field.armour_resistance x)
    && within_z (neg_ℤ (pos 4000)) (pos 25000) (Field.armour_temperature x)
    && axis_limits x
    && within 100 50000 (Field.armour_diameter x)

unfoldable pub sl_type : Arrangement
sl_type =
    record {
      known = true;
      alternates = true;
      limits = armour_limits;
      unused = λ x. true;
      geometry =
          λ x. leb (Field.sheath_diameter x) (Field.spacing x) && leb (2 * Field.axis_distance x) (Field.armour_diameter x);
      heat = λ x. le_z (Field.armour_temperature x) (Field.conductor_temperature x);
      metal = λ x. eqb (Field.sheath_metal x) 1 && eqb (Field.armour_metal x) 6;
      eddies = false;
      reactive = true;
      RA = RA;
      X = X;
      n = 3;
      S = λ x. sl_loss (X x) (Rs x);
      W = λ x. armour_loss (RA x) (B x) (Field.axis_distance x) (Field.armour_diameter x) (XLow x) (Rs x);
      S* = λ x c. sl_loss* (X* x c) (Rs x);
      W* = λ x c. armour_loss* (RA x) (B* x c) (Field.axis_distance x) (Field.armour_diameter x) (X* x c) (Rs x);
    }
