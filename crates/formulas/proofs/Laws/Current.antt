-- Stage 10's rating is what docs/RATING.md says it is: the largest I with I² E ≤ 10^13 N. Assumes nothing.
use Rattle.std.specs.Prelude.{ℕ, ◌+◌, ◌*◌, ◌^◌, ◌≤◌, ◌<◌}
use Rattle.std.proofs.Common.{le_trans, lt_of_lt_of_le, mul-le-mul_right, arith}
use Rattle.exact.proofs.Laws.Rounding.{down_below, down_close}
use Rattle.exact.specs.Root.{IsRoot}
use Rattle.exact.proofs.Laws.Root.{root_is}
use Rattle.formulas.specs.Rating.{rating}
use Rattle.formulas.specs.Laws.Current.{IsRating}

of_quotient : {n e q i : ℕ} → IsRoot q i → 10 ^ 13 * n < q * e + e → q * e ≤ 10 ^ 13 * n → IsRating n e i
of_quotient {e = e} p above below =
    record {
      carried = le_trans (mul-le-mul_right e p.below) below;
      no_more = lt_of_lt_of_le above (le_trans (omega arith) (mul-le-mul_right e p.above));
    }

-- the quotient is that of the definition: where it divides by something else, the first order fails
pub rating_largest : (n : ℕ) {e : ℕ} → 0 < e → IsRating n e (rating n e)
unfolding rating
rating_largest n {e} e>0 =
    of_quotient (root_is _) (omega (arith, down_close (10 ^ 13 * n) e>0)) (omega (arith, down_below (10 ^ 13 * n) e))
