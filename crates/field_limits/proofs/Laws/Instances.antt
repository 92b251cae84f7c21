-- Refusals 3 and 4 of cases that differ in one field or two from cables that are rated, and the fields that are marked. So the premises of
-- the laws are met, and both outcomes. Assumes nothing.
use Rattle.std.specs.Prelude.{◌≡◌, refl, Bool, true, false, List, [], ◌∷◌, ℕ, filter, set}
use Rattle.std.proofs.Common.{◌∙◌}
use Rattle.std.specs.List.{range_with_len}
use Rattle.rating.specs.FieldRefusals.{moist, limit_refused, stray_refused}
use Rattle.rating.specs.SlType.{sl_type}
use Rattle.rating.specs.DirectCurrent.{direct_current}
use Rattle.rating.specs.Arrangements.{arrangement_of}
use Rattle.rating.proofs.Laws.Answers.{cable, feeder}
use Rattle.field_limits.specs.Limits.{row}
use Rattle.field_limits.specs.Marked.{has, value, allowed, outside, unused, stray}
use Rattle.field_limits.proofs.Laws.Limit.{limit_marked}
use Rattle.field_limits.proofs.Laws.Stray.{stray_marked}

-- the fields that a test marks, of all places up to one behind the last field
abbrev marked : (ℕ → Bool) → List ℕ
marked test = filter test (range_with_len 0 31)

-- the cable of SL type has every field; the feeder has no field of an alternating current, and neither is refused

none_outside : marked (outside cable) ≡ []
unfolding outside has allowed value moist row
none_outside = refl

none_stray : marked (stray feeder) ≡ []
unfolding stray unused has moist row
none_stray = refl

not_refused : limit_refused cable ≡ false
unfolding arrangement_of sl_type outside has allowed value moist row
not_refused = limit_marked cable refl ∙ refl

-- a voltage of 1 V more than its limit, an ambient below -40 °C, and no ρ where it is 1

abbrev too_much : List ℕ
too_much = set cable 10 300001

abbrev too_cold : List ℕ
too_cold = set (set cable 4 4294963295) 27 999

outside_at_10 : (limit_refused too_much ≡ true) × (marked (outside too_much) ≡ 10 ∷ [])
unfolding arrangement_of sl_type outside has allowed value moist row
outside_at_10 = (limit_marked too_much refl ∙ refl, refl)

outside_at_4_and_27 : (limit_refused too_cold ≡ true) × (marked (outside too_cold) ≡ 4 ∷ 27 ∷ [])
unfolding arrangement_of sl_type outside has allowed value moist row
outside_at_4_and_27 = (limit_marked too_cold refl ∙ refl, refl)

-- a sheath's diameter with direct current, which has no limits there; and θx where no soil dries out

abbrev sheathed : List ℕ
sheathed = set (set feeder 13 1) 28 1

stray_at_13_and_28 : (stray_refused sheathed ≡ true) × (marked (stray sheathed) ≡ 13 ∷ 28 ∷ [])
unfolding arrangement_of direct_current stray unused has moist row
stray_at_13_and_28 = (stray_marked sheathed refl ∙ refl, refl)

limits_of_none : (limit_refused sheathed ≡ false) × (marked (outside sheathed) ≡ [])
unfolding arrangement_of direct_current outside has allowed value moist row
limits_of_none = (limit_marked sheathed refl ∙ refl, refl)
