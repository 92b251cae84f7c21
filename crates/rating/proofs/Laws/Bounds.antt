-- How large an answer is: its number is at most that of the last refusal and its rating at most 5000000, so both fit a field of a record.
-- Assumes nothing.
use Rattle.std.specs.Prelude.{Bool, true, false, cond, List, ◌≡◌, refl, ℕ, ◌≤◌, eqb}
use Rattle.std.proofs.Common.{lit≤, ltb-false}
use Rattle.bools.proofs.Laws.First.{number_most}
use Rattle.formulas.specs.Refusals as Test
use Rattle.rating.specs.FieldRefusals.{field_refusals, field_refusal}
use Rattle.rating.specs.StageRefusals.{skin_refused, eddy_refused, dielectric_refused, current_refused}
use Rattle.rating.specs.Rate.{Answer, refused, rated, loaded, judged, rate_of, rate_of_is}

-- the largest number of a refusal
abbrev most_number : ℕ
most_number = 33

field_refusal_most : (x : List ℕ) → field_refusal x ≤ most_number
unfolding field_refusals
field_refusal_most x = number_most most_number (field_refusals x) refl

pub record Bounded (a : Answer) : Type 0 where
  pub number_most : a.number ≤ most_number
  pub rating_most : a.rating ≤ 5000000

refused_bounded : {n : ℕ} → n ≤ most_number → Bounded (refused n)
unfolding refused
refused_bounded n≤ = record { number_most = n≤; rating_most = lit≤ tt }

-- the refusal n where it is given, else the rest
or_refused_bounded : (given : Bool) (n : ℕ) {rest : Answer} → n ≤ most_number → Bounded rest → Bounded (cond given (refused n) rest)
or_refused_bounded true n n≤ rest-bounded = refused_bounded n≤
or_refused_bounded false n n≤ rest-bounded = rest-bounded

unless_too_high : (x : List ℕ) (given : Bool) → current_refused x ≡ given → Bounded (cond given (refused 11) (rated x))
unfolding rated Test.current_refused
unless_too_high x true e = refused_bounded (lit≤ tt)
unless_too_high x false e = record { number_most = lit≤ tt; rating_most = ltb-false _ _ e }

judged_bounded : (x : List ℕ) → Bounded (judged x)
unfolding judged loaded
judged_bounded x =
    or_refused_bounded (skin_refused x) 8 (lit≤ tt)
    (or_refused_bounded (eddy_refused x) 9 (lit≤ tt)
    (or_refused_bounded (dielectric_refused x) 10 (lit≤ tt)
    (unless_too_high x (current_refused x) refl)))

after_fields : (x : List ℕ) (none_given : Bool) → Bounded (cond none_given (judged x) (refused (field_refusal x)))
after_fields x true = judged_bounded x
after_fields x false = refused_bounded (field_refusal_most x)

pub rate_of_bounded : (x : List ℕ) → Bounded (rate_of x)
rate_of_bounded x = rw (rate_of_is x) (after_fields x (eqb (field_refusal x) 0))
