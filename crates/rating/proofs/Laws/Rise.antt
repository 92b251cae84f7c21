-- θc - θa and θx - θa as whole numbers: refusal 6 keeps the first at 500 or above, and the limits keep both at 29000 or below.
-- Assumes nothing.
use Rattle.std.specs.Prelude.{List, ℕ, ◌≤◌, ℤ, pos, neg_ℤ, ◌-ℤ◌}
use Rattle.std.specs.Prelude.{◌≤ℤ◌}
use Rattle.std.proofs.Common.{arith}
use Rattle.std.proofs.lemmas.Int.{ints}
use Rattle.fields.specs.Fields as Field
use Rattle.rating.specs.Values.{isotherm_rise_of}
use Rattle.rating.specs.Laws.Sound.{Sound}
use Rattle.rating.specs.Laws.Rise.{RiseRange}

pub above_cold : (θ : ℤ) → pos 4000 ≤ℤ θ → neg_ℤ (pos 4000) ≤ℤ θ
above_cold θ h = omega (arith, ints)

module _ {x : List ℕ} (fine : Sound x) where
  pub rise_range : RiseRange (Field.conductor_temperature x -ℤ Field.ambient_temperature x)
  rise_range =
      record {
        sign = omega (arith, ints, fine.rise);
        least = omega (arith, ints, fine.rise);
        most = omega (arith, ints, fine.rise, fine.hot, fine.ambient);
      }

  pub isotherm_rise_most : isotherm_rise_of x ≤ 29000
  unfolding isotherm_rise_of
  isotherm_rise_most = omega (arith, ints, fine.isotherm, fine.ambient)
