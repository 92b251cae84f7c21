-- Soil that dries out, on a case. Where ρ is not 0, refusal 31 leaves a θx - θa that is a whole number from 0 to θc - θa, so that the
-- permitted rise is the paper's, whose differences could be negative. Assumes nothing.
use Rattle.std.specs.Prelude.{◌≡◌, List, ℕ, ◌-◌, ◌^◌, ◌≤◌, pos, ◌+ℤ◌, ◌-ℤ◌, ◌*ℤ◌}
use Rattle.std.proofs.Common.{arith, refl, false}
use Rattle.std.proofs.lemmas.Bool.{ne_eqb}
use Rattle.std.proofs.lemmas.Int.{ints}
use Rattle.formulas.specs.Soil.{soil_ratio, permitted_rise}
use Rattle.fields.specs.Fields as Field
use Rattle.rating.specs.Values.{rise_of, isotherm_rise_of, permitted_of}
use Rattle.rating.specs.FieldRefusals.{moist, field_refusal}
use Rattle.rating.proofs.Laws.Sound.{sound}
use Rattle.rating.proofs.Laws.Rise.{rise_range}

-- ρ is not 0: the differences are whole numbers, and the addition is ρ - 1000 times the one, as the paper has it
pub record Dries (x : List ℕ) : Type 0 where
  pub isotherm_rise : Field.isotherm x -ℤ Field.ambient_temperature x ≡ pos (isotherm_rise_of x)
  pub isotherm_rise_within : isotherm_rise_of x ≤ rise_of x
  pub permitted :
      pos (permitted_of x)
      ≡ pos (10 ^ 7) *ℤ (Field.conductor_temperature x -ℤ Field.ambient_temperature x)
      +ℤ pos (10 ^ 4) *ℤ (pos (Field.dry_ratio x) -ℤ pos 1000) *ℤ (Field.isotherm x -ℤ Field.ambient_temperature x)

module _ (x : List ℕ) (none_given : field_refusal x ≡ 0) (some : Field.dry_ratio x ≡ 0 → ⊥) where
  counts : soil_ratio (Field.dry_ratio x) ≡ Field.dry_ratio x
  unfolding soil_ratio
  counts = simp (ne_eqb (Field.dry_ratio x) 0 some)

  not_moist : moist x ≡ false
  unfolding moist
  not_moist = ne_eqb (Field.dry_ratio x) 0 some

  pub dries : Dries x
  unfolding isotherm_rise_of rise_of permitted_of permitted_rise
  dries =
      let fine = sound x none_given in
      let between = fine.isotherm_between not_moist in
      let isotherm : Field.isotherm x -ℤ Field.ambient_temperature x ≡ pos (isotherm_rise_of x) = omega (arith, ints, between.least) in
      let rise = (rise_range fine).sign in
      let least : 1000 ≤ Field.dry_ratio x = omega (arith, counts, fine.ratio.least) in
      let ratio : pos (Field.dry_ratio x) -ℤ pos 1000 ≡ pos (Field.dry_ratio x - 1000) = omega (arith, ints) in
      record {
        isotherm_rise = isotherm;
        isotherm_rise_within = omega (arith, ints, between.least, between.most);
        permitted = rw counts (rw isotherm (rw rise (rw ratio refl)));
      }
