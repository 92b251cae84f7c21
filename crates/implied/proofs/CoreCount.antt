-- How many cores each arrangement has, by its number. Assumes nothing.
use Rattle.std.specs.Prelude.{◌≡◌, cond, ℕ, eqb}
use Rattle.std.proofs.Common.{arith}
use Rattle.rating.specs.BothEnds.{both_ends}
use Rattle.rating.specs.OnePoint.{one_point}
use Rattle.rating.specs.SlType.{sl_type}
use Rattle.rating.specs.CommonSheath.{common_sheath}
use Rattle.rating.specs.DirectCurrent.{direct_current}
use Rattle.rating.specs.Arrangements.{no_arrangement, arrangement_of}

-- by the tests of `arrangement_of`, in their order
pub cores_of :
    (k : ℕ) →
    (arrangement_of k).n
    ≡ cond (eqb k 1) 1 (cond (eqb k 2) 1 (cond (eqb k 3) 1 (cond (eqb k 4) 1 (cond (eqb k 5) 3 (cond (eqb k 6) 3 (cond (eqb k 7) 1 0))))))
unfolding arrangement_of both_ends one_point sl_type common_sheath direct_current no_arrangement
cores_of k = grind arith
