-- The logarithms of a case that the refusals of the fields let pass: stage 5's promises of each that its arrangement has, and fractions
-- that may stand for them, for pi and for ln 2. So what is proved of all such fractions is proved of some. Assumes nothing.
use Rattle.std.specs.Prelude.{◌≡◌, true, List, ℕ, ◌*◌}
use Rattle.formulas.proofs.Laws.LogEndsOrder.{pi_exists, ln2_exists, log_exists}
use Rattle.formulas.proofs.Laws.LogPromised.{LogPromised, spacing_promised, insulation_promised}
use Rattle.fields.specs.Fields as Field
use Rattle.rating.specs.Laws.Logarithms.{lowest}
use Rattle.rating.specs.Arrangements.{own}
use Rattle.rating.specs.Allowed.{Allowed}
use Rattle.rating.specs.FieldRefusals.{field_refusal}
use Rattle.rating.proofs.Laws.Sound.{sound}
use Rattle.rating.proofs.Laws.Arrangements.{lawful}

pub record Promised (x : List ℕ) : Type 0 where
  pub insulation : LogPromised (Field.insulation_diameter x) (Field.screen_diameter x)
  pub spacing : (own x).reactive ≡ true → LogPromised (2 * Field.spacing x) (Field.sheath_diameter x)

pub promised : (x : List ℕ) → field_refusal x ≡ 0 → Promised x
promised x none_given =
    let fine = sound x none_given in
    record {
      insulation = insulation_promised fine.screen_diameter.least fine.insulated fine.insulation_diameter.most;
      spacing =
          λ reactive.
          let its = lawful (Field.arrangement x) in
          let ac = fine.alternating (its.reacts reactive) in
          spacing_promised ac.sheath_diameter.least (its.apart reactive fine.geometry) ac.spacing.most;
    }

pub lowest_allowed : (x : List ℕ) → Allowed (own x) x (lowest x)
lowest_allowed x =
    record {
      pi = λ alternates. pi_exists;
      ln2 = λ alternates. ln2_exists;
      log_spacing = λ reactive. log_exists (2 * Field.spacing x) (Field.sheath_diameter x);
      log_insulation = λ alternates. log_exists (Field.insulation_diameter x) (Field.screen_diameter x);
    }
