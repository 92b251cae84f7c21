-- Arrangement 6: a three-core cable whose round cores lie in one sheath, without armour. The sheath has eddies alone (docs/RATING.md,
-- stage 7). Assumes nothing.
use Rattle.std.specs.Prelude.{true, false, ◌&&◌, ◌*◌, leb}
use Rattle.exact.specs.Fraction.{whole}
use Rattle.formulas.specs.CommonSheath.{common_loss, common_loss*}
use Rattle.fields.specs.Fields as Field
use Rattle.rating.specs.Values.{Rs, B}
use Rattle.rating.specs.Chosen.{B*}
use Rattle.rating.specs.Arrangement.{Arrangement, axis_limits, no_armour}

unfoldable pub common_sheath : Arrangement
common_sheath =
    record {
      known = true;
      alternates = true;
      limits = axis_limits;
      unused = no_armour;
      geometry =
          λ x. leb (Field.conductor_diameter x) (Field.spacing x) && leb (2 * Field.axis_distance x) (Field.sheath_diameter x);
      heat = λ x. true;
      metal = λ x. true;
      eddies = false;
      reactive = false;
      RA = λ x. 0;
      X = λ x. 0;
      n = 3;
      S = λ x. common_loss (B x) (Rs x) (Field.axis_distance x) (Field.sheath_diameter x);
      W = λ x. 0;
      S* = λ x c. common_loss* (B* x c) (Rs x) (Field.axis_distance x) (Field.sheath_diameter x);
      W* = λ x c. whole 0;
    }
