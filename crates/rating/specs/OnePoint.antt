-- Arrangements 3 and 4: three single-core cables, in trefoil or flat with the centre cable rated, sheaths bonded at one point. The sheaths
-- are of lead and have eddies alone (docs/RATING.md, stage 7). Assumes nothing.
use Rattle.std.specs.Prelude.{true, false, ℕ, leb, eqb}
use Rattle.exact.specs.Fraction.{whole}
use Rattle.formulas.specs.Sheath.{eddy_loss, eddy_loss*}
use Rattle.fields.specs.Fields as Field
use Rattle.rating.specs.Values.{Rs, B}
use Rattle.rating.specs.Chosen.{B*}
use Rattle.rating.specs.Arrangement.{Arrangement, armourless}

-- j is 1 in arrangement 3 and 2 in 4
unfoldable pub one_point : (j : ℕ) → Arrangement
one_point j =
    record {
      known = true;
      alternates = true;
      limits = λ x. true;
      unused = armourless;
      geometry = λ x. leb (Field.sheath_diameter x) (Field.spacing x);
      heat = λ x. true;
      metal = λ x. eqb (Field.sheath_metal x) 1;
      eddies = true;
      reactive = false;
      RA = λ x. 0;
      X = λ x. 0;
      n = 1;
      S = λ x. eddy_loss j (B x) (Rs x) (Field.sheath_diameter x) (Field.spacing x);
      W = λ x. 0;
      S* = λ x c. eddy_loss* j (B* x c) (Rs x) (Field.sheath_diameter x) (Field.spacing x);
      W* = λ x c. whole 0;
    }
