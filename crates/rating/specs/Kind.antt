-- The kinds of the code: the arrangement that each is, and the one that a number picks. Assumes nothing.
use Rattle.std.specs.Prelude.{◌≡◌, ℕ, Result, MatchResult}
use Rattle.rating.specs.declared.one_point.Formation.{Formation}
use Rattle.rating.specs.declared.one_point.Formation.TheVariants.{Trefoil, Flat}
use Rattle.rating.specs.declared.arrangement.Kind.{Kind}
use Rattle.rating.specs.declared.arrangement.Kind.TheVariants.{BothEnds, OnePoint, SlType, CommonSheath, DirectCurrent}
use Rattle.rating.specs.declared.refusal.Refusal.{Refusal}
use Rattle.rating.specs.declared.refusal.Refusal as Code
use Rattle.rating.specs.Arrangement.{Arrangement}
use Rattle.rating.specs.BothEnds.{both_ends}
use Rattle.rating.specs.OnePoint.{one_point}
use Rattle.rating.specs.SlType.{sl_type}
use Rattle.rating.specs.CommonSheath.{common_sheath}
use Rattle.rating.specs.DirectCurrent.{direct_current}
use Rattle.rating.specs.Arrangements.{arrangement_of, no_arrangement}

abbrev pub j_of : Formation → ℕ
j_of Trefoil = 1
j_of Flat = 2

abbrev pub arrangement_as : Kind → Arrangement
arrangement_as BothEnds = both_ends
arrangement_as (OnePoint formation) = one_point (j_of formation)
arrangement_as SlType = sl_type
arrangement_as CommonSheath = common_sheath
arrangement_as DirectCurrent = direct_current

-- refusal 1, where no arrangement has the number
pub record Unknown (n : ℕ) (refusal : Refusal) : Type 0 where
  pub none : arrangement_of n ≡ no_arrangement
  pub refusal_is : refusal ≡ Code.TheVariants.Arrangement

-- the kind of the arrangement with the number n, or refusal 1
abbrev pub Picks : ℕ → Result Kind Refusal → Type 0
Picks n r = MatchResult r (λ kind. arrangement_of n ≡ arrangement_as kind) (Unknown n)
