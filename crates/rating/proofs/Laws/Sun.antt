-- The sun, on a case. Where field 29 is 0, d0 is dd, rounded and exact: such a case is rated as it was before there was a sun. And where it
-- is not, refusal 32 leaves soil that does not dry out, so that the sun's heat passes through the T4 of E and dd. Assumes nothing.
use Rattle.std.specs.Prelude.{◌≡◌, refl, List, ℕ, ◌*◌, ◌<◌, eqb}
use Rattle.std.proofs.Common.{ap, arith}
use Rattle.bools.proofs.Laws.Tests.{either_by}
use Rattle.exact.specs.Fraction.{◌+F◌, ◌≃F◌}
use Rattle.formulas.specs.Soil.{soil_ratio}
use Rattle.formulas.specs.Sun.{solar_rise}
use Rattle.fields.specs.Fields as Field
use Rattle.rating.specs.Values.{solar_rise_of}
use Rattle.rating.specs.Chosen.{Chosen}
use Rattle.rating.specs.FieldRefusals.{moist, field_refusal}
use Rattle.rating.specs.Stage10.{numbers_of, d0}
use Rattle.rating.specs.Exact.{numbers_of*, d0*}
use Rattle.rating.proofs.Laws.Sound.{sound}
use Rattle.rating.proofs.Laws.Moist.{AsMoist, as_moist}

pub record InShade (x : List ℕ) : Type 0 where
  pub rise : d0 x ≡ (numbers_of x).dd
  pub rise* : (c : Chosen) → 0 < (numbers_of* x c).dd.den → d0* x c ≃F (numbers_of* x c).dd

module _ (x : List ℕ) (no_heat : Field.solar_heat x ≡ 0) where
  no_rise : solar_rise_of x ≡ 0
  unfolding solar_rise_of solar_rise
  no_rise = omega (arith, ap (λ heat. heat * Field.t4 x) no_heat)

  pub in_shade : InShade x
  unfolding d0 d0* ◌+F◌
  in_shade =
      record {
        rise = omega (arith, no_rise);
        rise* = λ c has_value. rw no_rise (record { left = omega (arith, has_value); right = has_value; across = omega arith });
      }

module _ (x : List ℕ) (none_given : field_refusal x ≡ 0) (heated : Field.solar_heat x ≡ 0 → ⊥) where
  none_dries : soil_ratio (Field.dry_ratio x) ≡ 1000
  unfolding moist soil_ratio
  none_dries =
      either_by (λ ρ. ρ ≡ 1000) (eqb (Field.dry_ratio x) 0) (λ moist. refl)
      (λ dries. absurd (heated ((sound x none_given).shaded dries)))

  pub sunlit_moist : AsMoist x
  sunlit_moist = as_moist x none_dries
