-- Refusal 3 is given where a field that the arrangement has is outside its limits, and for no other reason. Assumes nothing.
use Rattle.std.specs.Prelude.{◌≡◌, refl, Bool, true, not, ◌&&◌, ◌||◌, List, [], ◌∷◌, ◌++◌, ℕ, eqb}
use Rattle.std.proofs.Common.{◌∙◌}
use Rattle.std.proofs.Math.Bool.{and-true, and_assoc}
use Rattle.std.specs.List.{list_all, list_any, range_with_len}
use Rattle.fields.specs.Fields as Field
use Rattle.rating.specs.FieldRefusals.{conductor_limits, alternating_limits, thermal_limits, further_limits, moist, limit_refused}
use Rattle.rating.specs.Arrangement.{Arrangement, axis_limits}
use Rattle.rating.specs.BothEnds.{both_ends}
use Rattle.rating.specs.OnePoint.{one_point}
use Rattle.rating.specs.SlType.{sl_type, armour_limits}
use Rattle.rating.specs.CommonSheath.{common_sheath}
use Rattle.rating.specs.DirectCurrent.{direct_current}
use Rattle.rating.specs.Arrangements.{arrangement_of, own}
use Rattle.field_limits.specs.Limits.{row}
use Rattle.field_limits.specs.Marked.{has, value, allowed, outside, any_field}
use Rattle.field_limits.proofs.Laws.Lists.{holds, fails_alike}
use Rattle.field_limits.proofs.Laws.Numbers.{at_each}

-- the groups of fields of refusal 3, in its order

abbrev conductors : List ℕ
conductors = 3 ∷ 4 ∷ 5 ∷ 6 ∷ 8 ∷ 9 ∷ 10 ∷ []

abbrev alternatings : List ℕ
alternatings = 2 ∷ 7 ∷ 11 ∷ 12 ∷ 13 ∷ 14 ∷ 15 ∷ 16 ∷ []

abbrev thermals : List ℕ
thermals = 22 ∷ 23 ∷ 24 ∷ 25 ∷ []

abbrev furthers : List ℕ
furthers = 26 ∷ 27 ∷ 28 ∷ 29 ∷ []

abbrev armours : List ℕ
armours = 17 ∷ 18 ∷ 19 ∷ 20 ∷ 21 ∷ []

-- the fields of single-core cables with alternating current
abbrev unarmoured : List ℕ
unarmoured = range_with_len 2 15 ++ range_with_len 22 8

module _ (x : List ℕ) where
  conductors_are : conductor_limits x ≡ list_all (allowed x) conductors
  unfolding conductor_limits allowed value row
  conductors_are = simp (and_assoc, and-true)

  alternatings_are : alternating_limits x ≡ list_all (allowed x) alternatings
  unfolding alternating_limits allowed value row
  alternatings_are = simp (and_assoc, and-true)

  thermals_are : thermal_limits x ≡ list_all (allowed x) thermals
  unfolding thermal_limits allowed value row
  thermals_are = simp (and_assoc, and-true)

  furthers_are : further_limits x ≡ list_all (allowed x) furthers
  unfolding further_limits allowed value row moist
  furthers_are = simp (and_assoc, and-true)

  armours_are : armour_limits x ≡ list_all (allowed x) armours
  unfolding armour_limits axis_limits allowed value row
  armours_are = simp (and_assoc, and-true)

  axis_is : axis_limits x ≡ list_all (allowed x) (20 ∷ [])
  unfolding axis_limits allowed value row
  axis_is = simp (and_assoc, and-true)

  -- refusal 3 by an arrangement, and the mark of a field by an arrangement's number

  refused_by : Arrangement → Bool
  refused_by a =
      not
      (conductor_limits x && (not a.alternates || alternating_limits x) && thermal_limits x && further_limits x && a.limits x)

  marked_by : ℕ → ℕ → Bool
  marked_by k i = list_any (λ j. eqb j k) (row i).arrangements && not (allowed x i)

  abbrev Agrees : ℕ → Type 0
  Agrees k = refused_by (arrangement_of k) ≡ any_field (marked_by k)

  -- an arrangement with alternating current has the limits of `its` fields, and marks those of `fields`
  alternating :
      (k : ℕ) (its fields : List ℕ) → (arrangement_of k).alternates ≡ true →
      (arrangement_of k).limits x ≡ list_all (allowed x) its →
      holds (conductors ++ alternatings ++ thermals ++ furthers ++ its) fields ≡ true →
      holds fields (conductors ++ alternatings ++ thermals ++ furthers ++ its) ≡ true →
      list_any (λ i. not (allowed x i)) fields ≡ any_field (marked_by k) → Agrees k
  unfolding refused_by
  alternating k its fields alternates limits there back marks =
      let groups : refused_by (arrangement_of k) ≡ not (list_all (allowed x) (conductors ++ alternatings ++ thermals ++ furthers ++ its)) =
      simp (alternates, limits, conductors_are, alternatings_are, thermals_are, furthers_are, and_assoc)
      in
      groups ∙ fails_alike (allowed x) (conductors ++ alternatings ++ thermals ++ furthers ++ its) fields there back ∙ marks

  direct : Agrees 7
  unfolding refused_by marked_by arrangement_of direct_current row
  direct =
      let groups : refused_by direct_current ≡ not (list_all (allowed x) (conductors ++ thermals ++ furthers)) =
      simp (conductors_are, thermals_are, furthers_are, and_assoc, and-true)
      in
      groups ∙ fails_alike (allowed x) (conductors ++ thermals ++ furthers) (conductors ++ range_with_len 22 8) refl refl

  pub limit_marked : (own x).known ≡ true → limit_refused x ≡ any_field (outside x)
  unfolding limit_refused outside has refused_by marked_by arrangement_of both_ends one_point sl_type common_sheath row
  limit_marked =
      at_each Agrees (alternating 1 [] unarmoured refl refl refl refl refl) (alternating 2 [] unarmoured refl refl refl refl refl)
      (alternating 3 [] unarmoured refl refl refl refl refl)
      (alternating 4 [] unarmoured refl refl refl refl refl)
      (alternating 5 armours (range_with_len 2 28) refl armours_are refl refl refl)
      (alternating 6 (20 ∷ []) (range_with_len 2 15 ++ 20 ∷ range_with_len 22 8) refl axis_is refl refl refl)
      direct
      (Field.arrangement x)
