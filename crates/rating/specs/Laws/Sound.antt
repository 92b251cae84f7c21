-- What a case promises once no refusal of the fields is given: each limit and each relation that every arrangement asks for as a fact,
-- which the stages and the bounds on them take. What an arrangement asks for besides stays a test, which its own laws open. Assumes
-- nothing.
use Rattle.std.specs.Prelude.{◌≡◌, true, false, List, ℕ, ◌*◌, ◌≤◌, ℤ, pos, neg_ℤ, ◌-ℤ◌, ◌≤ℤ◌}
use Rattle.formulas.specs.Soil.{soil_ratio}
use Rattle.formulas.specs.Laws.Ranges.{In}
use Rattle.fields.specs.Fields as Field
use Rattle.rating.specs.Arrangements.{own}
use Rattle.rating.specs.FieldRefusals.{moist}

-- z is at least low and at most high
pub record InZ (low high z : ℤ) : Type 0 where
  pub least : low ≤ℤ z
  pub most : z ≤ℤ high

-- what every arrangement asks for whose current alternates
pub record Alternating (x : List ℕ) : Type 0 where
  pub frequency : In 1000 6500 (Field.frequency x)
  pub spacing : In 100 1000000 (Field.spacing x)
  pub permittivity : In 100 800 (Field.permittivity x)
  pub loss_factor : In 1 10000 (Field.loss_factor x)
  pub sheath_diameter : In 100 50000 (Field.sheath_diameter x)
  pub sheath_metal : In 1 6 (Field.sheath_metal x)
  pub sheath_resistance : In 1000 20000000 (Field.sheath_resistance x)
  pub sheath_temperature : InZ (neg_ℤ (pos 4000)) (pos 25000) (Field.sheath_temperature x)
  pub sheathed : Field.insulation_diameter x ≤ Field.sheath_diameter x

pub record Sound (x : List ℕ) : Type 0 where
  pub conductor : In 1 8 (Field.conductor x)
  pub hot : InZ (pos 4000) (pos 25000) (Field.conductor_temperature x)
  pub ambient : InZ (neg_ℤ (pos 4000)) (pos 6000) (Field.ambient_temperature x)
  pub resistance : In 5000 20000000 (Field.conductor_resistance x)
  pub screen_diameter : In 100 20000 (Field.screen_diameter x)
  pub insulation_diameter : In 100 30000 (Field.insulation_diameter x)
  pub voltage : In 0 300000 (Field.voltage x)
  pub t1 : In 1000 10000000 (Field.t1 x)
  pub t2 : In 0 10000000 (Field.t2 x)
  pub t3 : In 0 10000000 (Field.t3 x)
  pub t4 : In 10000 20000000 (Field.t4 x)
  pub ratio : In 1000 5000 (soil_ratio (Field.dry_ratio x))
  pub isotherm : InZ (neg_ℤ (pos 4000)) (pos 25000) (Field.isotherm x)
  pub solar_heat : In 0 200000 (Field.solar_heat x)
  pub core : Field.conductor_diameter x ≤ Field.screen_diameter x
  pub insulated : 105 * Field.screen_diameter x ≤ 100 * Field.insulation_diameter x
  pub rise : pos 500 ≤ℤ (Field.conductor_temperature x -ℤ Field.ambient_temperature x)
  pub isotherm_between : moist x ≡ false → InZ (Field.ambient_temperature x) (Field.conductor_temperature x) (Field.isotherm x)
  pub shaded : moist x ≡ false → Field.solar_heat x ≡ 0
  pub alternating : (own x).alternates ≡ true → Alternating x
  pub known : (own x).known ≡ true
  pub limits : (own x).limits x ≡ true
  pub geometry : (own x).geometry x ≡ true
