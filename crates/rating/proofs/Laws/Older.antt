-- A case of the older width, as one of today's. At every voltage its dielectric loss is stage 9's, where its current alternates; its soil
-- stays moist, no sun heats it, and no test of the fields that it does not have refuses it. Assumes nothing.
use Rattle.std.specs.Prelude.{◌≡◌, true, false, List, length, get_or, replicate, ℕ, ◌-◌, ◌≤◌}
use Rattle.std.proofs.Common.{lit≤}
use Rattle.std.proofs.lemmas.List.{get_or-append_right}
use Rattle.formulas.specs.Soil.{soil_ratio}
use Rattle.fields.specs.Fields as Field
use Rattle.rating.specs.FieldRefusals.{moist, further_limits, isotherm_unused, isotherm_refused, sun_refused}
use Rattle.rating.proofs.Laws.LossVoltage.{Counted, counted}
use Rattle.rating.proofs.Laws.Moist.{AsMoist, as_moist}
use Rattle.rating.proofs.Laws.Sun.{InShade, in_shade}

pub record Older (x : List ℕ) : Type 0 where
  pub loss : Counted x
  pub passes_3 : further_limits x ≡ true
  pub passes_4 : isotherm_unused x ≡ true
  pub passes_31 : isotherm_refused x ≡ false
  pub passes_32 : sun_refused x ≡ false
  pub soil : AsMoist x
  pub shade : InShade x

pub older : (x : List ℕ) → length x ≡ Field.older_width → Older (Field.from_older x)
unfolding further_limits isotherm_unused isotherm_refused sun_refused moist soil_ratio
older x is-older =
    let last : (i : ℕ) → Field.older_width ≤ i → Field.word (Field.from_older x) i ≡ get_or (replicate 4 0) (i - Field.older_width) 0 =
    λ i at-end. get_or-append_right x (replicate 4 0) Field.older_width i 0 is-older at-end
    in
    record {
      loss = counted (Field.from_older x) (last 26 (lit≤ tt));
      passes_3 = simp (last 26 (lit≤ tt), last 27 (lit≤ tt), last 28 (lit≤ tt), last 29 (lit≤ tt));
      passes_4 = simp (last 27 (lit≤ tt), last 28 (lit≤ tt));
      passes_31 = simp (last 27 (lit≤ tt));
      passes_32 = simp (last 27 (lit≤ tt));
      soil = as_moist (Field.from_older x) (simp (last 27 (lit≤ tt)));
      shade = in_shade (Field.from_older x) (last 29 (lit≤ tt));
    }
