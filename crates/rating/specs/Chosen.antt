-- docs/RATING.md, 'The exact rise': the fractions that stand for pi, ln 2 and the two logarithms, and the values that do not depend on the
-- arrangement alone, with no rounding. Each has the name of its rounded one with a star. Allowed says which fractions may stand for them.
-- Assumes nothing.
use Rattle.std.specs.Prelude.{cond, List, ℕ}
use Rattle.exact.specs.Fraction.{Fraction, whole}
use Rattle.formulas.specs.Tables.{ks, kp}
use Rattle.formulas.specs.Reactance.{reactance*}
use Rattle.formulas.specs.Skin.{skin_factor*}
use Rattle.formulas.specs.Proximity.{spacing_ratio*, proximity_factor*, ac_resistance*}
use Rattle.formulas.specs.Spacing.{spacing_log*, sheath_reactance*}
use Rattle.formulas.specs.Dielectric.{dielectric_loss*}
use Rattle.fields.specs.Fields as Field
use Rattle.rating.specs.Values.{R', loss_counts}

-- pi in all places, ln 2, the logarithm of 2s/d, and that of Di/ds
pub record Chosen : Type 0 where
  pub pi : Fraction
  pub ln2 : Fraction
  pub log_spacing : Fraction
  pub log_insulation : Fraction

module _ (x : List ℕ) (c : Chosen) where
  unfoldable pub B* : Fraction
  B* = reactance* c.pi (Field.frequency x)

  unfoldable pub R* : Fraction
  R* =
      ac_resistance* (R' x)
      (skin_factor* c.pi (Field.frequency x) (ks (Field.conductor x)) (R' x))
      (proximity_factor*
      (spacing_ratio* (Field.conductor_diameter x) (Field.spacing x))
      (skin_factor* c.pi (Field.frequency x) (kp (Field.conductor x)) (R' x)))

  unfoldable pub X* : Fraction
  X* = sheath_reactance* B* (spacing_log* (Field.arrangement x) c.log_spacing c.ln2)

  unfoldable pub Wd* : Fraction
  Wd* =
      cond (loss_counts x) (dielectric_loss* (Field.permittivity x) (Field.voltage x) (Field.loss_factor x) B* c.log_insulation)
      (whole 0)
