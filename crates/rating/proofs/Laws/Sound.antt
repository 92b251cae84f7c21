-- What a case promises once no refusal of the fields is given: each limit and each relation that every arrangement asks for as a fact,
-- which the stages and the bounds on them take. What an arrangement asks for besides stays a test, which its own laws open. Assumes
-- nothing.
use Rattle.std.specs.Prelude.{◌≡◌, refl, Bool, true, false, cond, not, ◌||◌, List, ℕ, suc, T, eqb, leb, ◌≤◌, ℤ, ◌≤ℤ◌}
use Rattle.std.proofs.Math.Path.{subst⁻¹}
use Rattle.std.proofs.Common.{ap, true≢false, suc-ne-zero, eqb-true, leb-true, lit≤}
use Rattle.std.specs.Int.Signed.{le_z, le_z_yes}
use Rattle.bools.specs.First.{or_refused}
use Rattle.bools.proofs.Laws.Tests.{both, other_of, either_by}
use Rattle.formulas.specs.Soil.{soil_ratio}
use Rattle.formulas.specs.Laws.Ranges.{In}
use Rattle.fields.specs.Fields as Field
use Rattle.rating.specs.Within.{within, within_z}
use Rattle.rating.specs.FieldRefusals.{
  arrangement_refused,
  conductor_refused,
  conductor_limits,
  alternating_limits,
  thermal_limits,
  moist,
  further_limits,
  limit_refused,
  stray_refused,
  geometry_refused,
  heat_refused,
  isotherm_refused,
  sun_refused,
  field_refusals,
  field_refusal,
}
use Rattle.rating.specs.Laws.Sound.{InZ, Alternating, Sound}

-- Tests that were passed, as facts.

pub in_range : (low high n : ℕ) → within low high n ≡ true → In low high n
in_range low high n e =
    let p = both (leb low n) (leb n high) e in
    record { least = leb-true low n p.0; most = leb-true n high p.1 }

pub le_z_true : (a b : ℤ) → le_z a b ≡ true → a ≤ℤ b
le_z_true a b e = le_z_yes (subst⁻¹ T e tt)

pub in_range_z : (low high z : ℤ) → within_z low high z ≡ true → InZ low high z
in_range_z low high z e =
    let p = both (le_z low z) (le_z z high) e in
    record { least = le_z_true low z p.0; most = le_z_true z high p.1 }

-- a refusal that is not given, and the next ones
passed : (refused : Bool) (n : ℕ) {rest : ℕ} → cond refused (suc n) rest ≡ 0 → (refused ≡ false) × (rest ≡ 0)
passed false n e = (refl, e)
passed true n e = absurd (suc-ne-zero n e)

-- what a test that does not refuse asks for holds
holds : (b : Bool) → not b ≡ false → b ≡ true
holds true e = refl
holds false e = absurd (true≢false e)

-- no refusal of the fields is given
record Unrefused (x : List ℕ) : Type 0 where
  arrangement : arrangement_refused x ≡ false
  conductor : conductor_refused x ≡ false
  limits : limit_refused x ≡ false
  geometry : geometry_refused x ≡ false
  heat : heat_refused x ≡ false
  isotherm : isotherm_refused x ≡ false
  sun : sun_refused x ≡ false

unrefused : (x : List ℕ) → field_refusal x ≡ 0 → Unrefused x
unfolding or_refused field_refusals
unrefused x none_given =
    let one = passed (arrangement_refused x) 0 none_given in
    let two = passed (conductor_refused x) 1 one.1 in
    let three = passed (limit_refused x) 2 two.1 in
    let four = passed (stray_refused x) 3 three.1 in
    let five = passed (geometry_refused x) 4 four.1 in
    let six = passed (heat_refused x) 5 five.1 in
    let isotherm = passed (isotherm_refused x) 30 six.1 in
    let sun = passed (sun_refused x) 31 isotherm.1 in
    record {
      arrangement = one.0;
      conductor = two.0;
      limits = three.0;
      geometry = five.0;
      heat = six.0;
      isotherm = isotherm.0;
      sun = sun.0;
    }

-- ρ as it counts, where it is 0 or within its limits
ratio_range : (ρ : ℕ) → eqb ρ 0 || within 1000 5000 ρ ≡ true → In 1000 5000 (soil_ratio ρ)
unfolding soil_ratio
ratio_range ρ e =
    either_by (In 1000 5000) (eqb ρ 0) (λ none. record { least = lit≤ tt; most = lit≤ tt })
    (λ some. in_range 1000 5000 ρ (other_of (eqb ρ 0) (within 1000 5000 ρ) e some))

alternating : {x : List ℕ} → alternating_limits x ≡ true → Field.insulation_diameter x ≤ Field.sheath_diameter x → Alternating x
unfolding alternating_limits
alternating passes sheathed =
    -- fields 2, 7 and 11 to 16, from the last
    let temperature = both _ _ passes in
    let resistance = both _ _ temperature.0 in
    let metal = both _ _ resistance.0 in
    let diameter = both _ _ metal.0 in
    let loss = both _ _ diameter.0 in
    let permittivity = both _ _ loss.0 in
    let spacing = both _ _ permittivity.0 in
    record {
      frequency = in_range _ _ _ spacing.0;
      spacing = in_range _ _ _ spacing.1;
      permittivity = in_range _ _ _ permittivity.1;
      loss_factor = in_range _ _ _ loss.1;
      sheath_diameter = in_range _ _ _ diameter.1;
      sheath_metal = in_range _ _ _ metal.1;
      sheath_resistance = in_range _ _ _ resistance.1;
      sheath_temperature = in_range_z _ _ _ temperature.1;
      sheathed = sheathed;
    }

pub sound : (x : List ℕ) → field_refusal x ≡ 0 → Sound x
unfolding conductor_refused limit_refused conductor_limits thermal_limits further_limits moist geometry_refused heat_refused
    isotherm_refused sun_refused
sound x none_given =
    let given : Unrefused x = unrefused x none_given in
    let its_own = both _ _ (holds _ given.limits) in
    let further = both _ _ its_own.0 in
    let thermal = both _ _ further.0 in
    let by_current = both _ _ thermal.0 in
    -- fields 3 to 6 and 8 to 10, from the last
    let voltage = both _ _ by_current.0 in
    let insulation = both _ _ voltage.0 in
    let screen = both _ _ insulation.0 in
    let diameter = both _ _ screen.0 in
    let resistance = both _ _ diameter.0 in
    let ambient = both _ _ resistance.0 in
    -- fields 22 to 25, from the last
    let t4 = both _ _ thermal.1 in
    let t3 = both _ _ t4.0 in
    let t1 = both _ _ t3.0 in
    -- fields 26 to 29, from the last
    let solar_heat = both _ _ further.1 in
    let isotherm = both _ _ solar_heat.0 in
    let ratio = both _ _ isotherm.0 in
    -- geometry and heat
    let placed = both _ _ (holds _ given.geometry) in
    let sheathed = both _ _ placed.0 in
    let core = both _ _ sheathed.0 in
    let rise = both _ _ (both _ _ (holds _ given.heat)).0 in
    record {
      conductor = in_range _ _ _ (holds _ given.conductor);
      hot = in_range_z _ _ _ ambient.0;
      ambient = in_range_z _ _ _ ambient.1;
      resistance = in_range _ _ _ resistance.1;
      screen_diameter = in_range _ _ _ screen.1;
      insulation_diameter = in_range _ _ _ insulation.1;
      voltage = in_range _ _ _ voltage.1;
      t1 = in_range _ _ _ t1.0;
      t2 = in_range _ _ _ t1.1;
      t3 = in_range _ _ _ t3.1;
      t4 = in_range _ _ _ t4.1;
      ratio = ratio_range _ ratio.1;
      isotherm = in_range_z _ _ _ isotherm.1;
      solar_heat = in_range _ _ _ solar_heat.1;
      core = leb-true _ _ core.0;
      insulated = leb-true _ _ core.1;
      rise = le_z_true _ _ rise.0;
      isotherm_between = λ dries. in_range_z _ _ _ (other_of _ _ (holds _ given.isotherm) dries);
      shaded = λ dries. eqb-true _ _ (other_of _ _ (holds _ given.sun) dries);
      alternating =
          λ alternates.
          let not_direct = ap not alternates in
          alternating (other_of _ _ by_current.1 not_direct) (leb-true _ _ (other_of _ _ sheathed.1 not_direct));
      known = holds _ given.arrangement;
      limits = its_own.1;
      geometry = placed.1;
    }
