-- The arrangements by their numbers (docs/RATING.md, 'The fields of a case'). Refusal 1 keeps any other number from the stages.
-- Assumes nothing.
use Rattle.std.specs.Prelude.{false, cond, List, ℕ, eqb}
use Rattle.exact.specs.Fraction.{whole}
use Rattle.fields.specs.Fields as Field
use Rattle.rating.specs.Arrangement.{Arrangement}
use Rattle.rating.specs.BothEnds.{both_ends}
use Rattle.rating.specs.OnePoint.{one_point}
use Rattle.rating.specs.SlType.{sl_type}
use Rattle.rating.specs.CommonSheath.{common_sheath}
use Rattle.rating.specs.DirectCurrent.{direct_current}

-- any other number, which refusal 1 refuses: no case passes its tests, and it has no numbers
unfoldable pub no_arrangement : Arrangement
no_arrangement =
    record {
      known = false;
      alternates = false;
      limits = λ x. false;
      unused = λ x. false;
      geometry = λ x. false;
      heat = λ x. false;
      metal = λ x. false;
      eddies = false;
      reactive = false;
      RA = λ x. 0;
      X = λ x. 0;
      n = 0;
      S = λ x. 0;
      W = λ x. 0;
      S* = λ x c. whole 0;
      W* = λ x c. whole 0;
    }

unfoldable pub arrangement_of : ℕ → Arrangement
arrangement_of k =
    cond (eqb k 1) both_ends
    (cond (eqb k 2) both_ends
    (cond (eqb k 3) (one_point 1)
    (cond (eqb k 4) (one_point 2)
    (cond (eqb k 5) sl_type
    (cond (eqb k 6) common_sheath
    (cond (eqb k 7) direct_current no_arrangement))))))

-- that of a case
abbrev pub own : List ℕ → Arrangement
own x = arrangement_of (Field.arrangement x)
