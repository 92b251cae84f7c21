-- The two ends of the sheath's reactance: each takes what the refusals leave of a case whose sheaths do not overlap, and gives X or X-.
-- Assumes nothing.
use Rattle.std.proofs.Common.{◌≡◌, ◌∙◌, ap, arith, List, ℕ, ◌≤◌}
use Rattle.formulas.specs.Reactance.{reactance_low}
use Rattle.formulas.specs.Spacing.{spacing_log_high, spacing_log_low, sheath_reactance, sheath_reactance_low}
use Rattle.formulas.proofs.Laws.Ranges.{reactance_low_most}
use Rattle.fields.specs.Fields as Field
use Rattle.rating.specs.Values.{B, X, XLow}
use Rattle.rating.specs.Laws.Sound.{Alternating}
use Rattle.rating.specs.Laws.Steps.{SheathReactanceTakes}
use Rattle.rating.proofs.Laws.Ranges.{B_range, spacing_log_high_most, spacing_log_low_most}

module _ {x : List ℕ} (ac : Alternating x) (apart : Field.sheath_diameter x ≤ Field.spacing x) where
  pub high_takes : {b : ℕ} → b ≡ B x → SheathReactanceTakes spacing_log_high x b
  high_takes b_is =
      record { alternating = ac; apart = apart; log_most = spacing_log_high_most ac apart; b_most = omega (arith, B_range ac) }

  pub low_takes : {b : ℕ} → b ≡ reactance_low (Field.frequency x) → SheathReactanceTakes spacing_log_low x b
  low_takes b_is =
      record {
        alternating = ac;
        apart = apart;
        log_most = spacing_log_low_most ac apart;
        b_most = omega (arith, reactance_low_most ac.frequency.most);
      }

module _ (x : List ℕ) where
  abbrev pub high_log : ℕ
  high_log = spacing_log_high (Field.arrangement x) (Field.spacing x) (Field.sheath_diameter x)

  abbrev pub low_log : ℕ
  low_log = spacing_log_low (Field.arrangement x) (Field.spacing x) (Field.sheath_diameter x)

  pub X_is : {b r : ℕ} → b ≡ B x → r ≡ sheath_reactance b high_log → r ≡ X x
  unfolding X
  X_is b_is r_is = r_is ∙ ap (λ b. sheath_reactance b high_log) b_is

  pub XLow_is : {b r : ℕ} → b ≡ reactance_low (Field.frequency x) → r ≡ sheath_reactance_low b low_log → r ≡ XLow x
  unfolding XLow
  XLow_is b_is r_is = r_is ∙ ap (λ b. sheath_reactance_low b low_log) b_is
