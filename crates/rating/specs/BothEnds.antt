-- Arrangements 1 and 2: three single-core cables, in trefoil or flat and transposed, sheaths bonded at both ends. Currents circulate
-- through the sheaths (docs/RATING.md, stage 7). Assumes nothing.
use Rattle.std.specs.Prelude.{true, false, leb}
use Rattle.exact.specs.Fraction.{whole}
use Rattle.formulas.specs.Sheath.{circulating_loss, circulating_loss*}
use Rattle.fields.specs.Fields as Field
use Rattle.rating.specs.Values.{Rs, X}
use Rattle.rating.specs.Chosen.{X*}
use Rattle.rating.specs.Arrangement.{Arrangement, armourless}

unfoldable pub both_ends : Arrangement
both_ends =
    record {
      known = true;
      alternates = true;
      limits = λ x. true;
      unused = armourless;
      geometry = λ x. leb (Field.sheath_diameter x) (Field.spacing x);
      heat = λ x. true;
      metal = λ x. true;
      eddies = false;
      reactive = true;
      RA = λ x. 0;
      X = X;
      n = 1;
      S = λ x. circulating_loss (X x) (Rs x);
      W = λ x. 0;
      S* = λ x c. circulating_loss* (X* x c) (Rs x);
      W* = λ x c. whole 0;
    }
