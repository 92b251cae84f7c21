-- Arrangement 7: a single-core cable for direct current (docs/RATING.md, 'Direct current'). It has neither sheath nor armour that a current
-- heats. Assumes nothing.
use Rattle.std.specs.Prelude.{Bool, true, false, ◌&&◌, List, ℕ, eqb}
use Rattle.exact.specs.Fraction.{whole}
use Rattle.fields.specs.Fields as Field
use Rattle.rating.specs.Arrangement.{Arrangement, armourless}

-- fields 2, 7 and 11 to 16, which only an alternating current has, are zero
unfoldable pub no_alternating : List ℕ → Bool
no_alternating x =
    eqb (Field.word x 2) 0
    && eqb (Field.word x 7) 0
    && eqb (Field.word x 11) 0
    && eqb (Field.word x 12) 0
    && eqb (Field.word x 13) 0
    && eqb (Field.word x 14) 0
    && eqb (Field.word x 15) 0
    && eqb (Field.word x 16) 0

unfoldable pub direct_current : Arrangement
direct_current =
    record {
      known = true;
      alternates = false;
      limits = λ x. true;
      unused = λ x. no_alternating x && armourless x;
      geometry = λ x. true;
      heat = λ x. true;
      metal = λ x. true;
      eddies = false;
      reactive = false;
      RA = λ x. 0;
      X = λ x. 0;
      n = 1;
      S = λ x. 0;
      W = λ x. 0;
      S* = λ x c. whole 0;
      W* = λ x c. whole 0;
    }
