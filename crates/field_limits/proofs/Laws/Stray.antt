-- Refusal 4 is given where a field that should be zero is not, and for no other reason. Assumes nothing.
use Rattle.std.specs.Prelude.{◌≡◌, refl, Bool, true, false, cond, not, ◌&&◌, ◌||◌, List, [], ◌∷◌, ◌++◌, ℕ, eqb, ltb}
use Rattle.std.proofs.Common.{ap, ◌∙◌}
use Rattle.std.proofs.Math.Bool.{and-true, and_assoc}
use Rattle.std.specs.List.{list_all, list_any}
use Rattle.fields.specs.Fields as Field
use Rattle.rating.specs.FieldRefusals.{moist, isotherm_unused, stray_refused}
use Rattle.rating.specs.Arrangement.{Arrangement, no_armour, armourless}
use Rattle.rating.specs.BothEnds.{both_ends}
use Rattle.rating.specs.OnePoint.{one_point}
use Rattle.rating.specs.SlType.{sl_type}
use Rattle.rating.specs.CommonSheath.{common_sheath}
use Rattle.rating.specs.DirectCurrent.{no_alternating, direct_current}
use Rattle.rating.specs.Arrangements.{arrangement_of, own}
use Rattle.field_limits.specs.Limits.{row}
use Rattle.field_limits.specs.Marked.{has, unused, stray, any_field}
use Rattle.field_limits.proofs.Laws.Lists.{holds, fails_alike}
use Rattle.field_limits.proofs.Laws.Numbers.{at_each}

-- the fields that refusal 4 asks to be zero, in its order: those of an armour, and those of an alternating current

abbrev armours : List ℕ
armours = 17 ∷ 18 ∷ 19 ∷ 21 ∷ []

abbrev alternatings : List ℕ
alternatings = 2 ∷ 7 ∷ 11 ∷ 12 ∷ 13 ∷ 14 ∷ 15 ∷ 16 ∷ []

-- θx is not zero where it should be
isotherm_mark : (m z : Bool) → not (not m || z) ≡ m && not z
isotherm_mark true z = refl
isotherm_mark false z = refl

module _ (x : List ℕ) where
  -- a field is zero, or it is θx and soil dries out
  clear : ℕ → Bool
  clear i = cond (eqb i 28) (isotherm_unused x) (eqb (Field.word x i) 0)

  armours_clear : no_armour x ≡ list_all clear armours
  unfolding no_armour clear
  armours_clear = simp (and_assoc, and-true)

  armourless_clear : armourless x ≡ list_all clear (armours ++ 20 ∷ [])
  unfolding armourless no_armour clear
  armourless_clear = simp (and_assoc, and-true)

  direct_clear : no_alternating x && armourless x ≡ list_all clear (alternatings ++ armours ++ 20 ∷ [])
  unfolding no_alternating armourless no_armour clear
  direct_clear = simp (and_assoc, and-true)

  -- refusal 4 by an arrangement, and the mark of a field by an arrangement's number

  refused_by : Arrangement → Bool
  refused_by a = not (isotherm_unused x && a.unused x)

  marked_by : ℕ → ℕ → Bool
  marked_by k i =
      ltb i Field.width
      && (not (list_any (λ j. eqb j k) (row i).arrangements) || (eqb i 28 && moist x))
      && not (eqb (Field.word x i) 0)

  abbrev Agrees : ℕ → Type 0
  Agrees k = refused_by (arrangement_of k) ≡ any_field (marked_by k)

  -- an arrangement asks that θx and `its` fields are clear, and marks those of `fields`
  asks :
      (k : ℕ) (its fields : List ℕ) → (arrangement_of k).unused x ≡ list_all clear its → holds (28 ∷ its) fields ≡ true →
      holds fields (28 ∷ its) ≡ true → list_any (λ i. not (clear i)) fields ≡ any_field (marked_by k) → Agrees k
  unfolding refused_by clear
  asks k its fields unused there back marks =
      ap (λ t. not (isotherm_unused x && t)) unused ∙ fails_alike clear (28 ∷ its) fields there back ∙ marks

  pub stray_marked : (own x).known ≡ true → stray_refused x ≡ any_field (stray x)
  unfolding stray_refused stray unused has refused_by marked_by clear isotherm_unused arrangement_of both_ends one_point sl_type
      common_sheath direct_current row
  stray_marked =
      let single = armours ++ 20 ∷ [] in
      let marked = 17 ∷ 18 ∷ 19 ∷ 20 ∷ 21 ∷ 28 ∷ [] in
      at_each Agrees (asks 1 single marked armourless_clear refl refl (simp isotherm_mark))
      (asks 2 single marked armourless_clear refl refl (simp isotherm_mark))
      (asks 3 single marked armourless_clear refl refl (simp isotherm_mark))
      (asks 4 single marked armourless_clear refl refl (simp isotherm_mark))
      (asks 5 [] (28 ∷ []) refl refl refl (simp isotherm_mark))
      (asks 6 armours (17 ∷ 18 ∷ 19 ∷ 21 ∷ 28 ∷ []) armours_clear refl refl (simp isotherm_mark))
      (asks 7 (alternatings ++ single) (alternatings ++ marked) direct_clear refl refl (simp isotherm_mark))
      (Field.arrangement x)
