-- The dielectric loss and its rise. Where the voltage from which the loss counts is 0, stage 9's formula holds at every U0; and a case of
-- any arrangement has no such loss and no rise by it, rounded and exact, where U0 is below that voltage or the current is direct. Assumes
-- nothing.
use Rattle.std.specs.Prelude.{◌≡◌, refl, false, List, ℕ, ◌<◌}
use Rattle.std.proofs.Common.{arith, lit<, le-leb}
use Rattle.std.proofs.lemmas.Bool.{lt-leb}
use Rattle.bools.proofs.Laws.Tests.{either}
use Rattle.exact.proofs.Laws.Rounding.{up_only}
use Rattle.exact.specs.Fraction.{whole, ◌*F◌, reciprocal, ◌≃F◌}
use Rattle.formulas.specs.Logarithm.{log_low}
use Rattle.formulas.specs.Dielectric.{dielectric_loss, dielectric_loss*, dielectric_rise, dielectric_rise*}
use Rattle.fields.specs.Fields as Field
use Rattle.rating.specs.Values.{B, loss_counts, Wd, soil_T4}
use Rattle.rating.specs.Chosen.{Chosen, B*, Wd*}
use Rattle.rating.specs.Arrangements.{own}
use Rattle.rating.specs.Current.{Wd_of, Wd_of*}
use Rattle.rating.specs.Stage10.{numbers_of}
use Rattle.rating.specs.Exact.{numbers_of*}

-- stage 9 alone: with direct current a case has no such loss all the same
pub record Counted (x : List ℕ) : Type 0 where
  pub loss :
      Wd x
      ≡ dielectric_loss (Field.permittivity x) (Field.voltage x) (Field.loss_factor x) (B x)
      (log_low (Field.insulation_diameter x) (Field.screen_diameter x))
  pub loss* :
      (c : Chosen) →
      Wd* x c ≡ dielectric_loss* (Field.permittivity x) (Field.voltage x) (Field.loss_factor x) (B* x c) c.log_insulation

pub counted : (x : List ℕ) → Field.loss_voltage x ≡ 0 → Counted x
unfolding Wd Wd* loss_counts
counted x none =
    let counts = le-leb (Field.loss_voltage x) (Field.voltage x) (omega (arith, none)) in
    record { loss = simp counts; loss* = λ c. simp counts }

pub record Uncounted (x : List ℕ) : Type 0 where
  pub loss : Wd_of x ≡ 0
  pub loss* : (c : Chosen) → Wd_of* x c ≡ whole 0
  pub rise : (numbers_of x).dd ≡ 0
  pub rise* : (c : Chosen) → (numbers_of* x c).dd ≃F whole 0

-- no loss warms by nothing

pub no_rise : (n t1 t2 t3 t4 : ℕ) → dielectric_rise n 0 t1 t2 t3 t4 ≡ 0
unfolding dielectric_rise
no_rise n t1 t2 t3 t4 = up_only _ _ 0 (omega arith) (omega arith)

no_rise* : (n t1 t2 t3 t4 : ℕ) → dielectric_rise* n (whole 0) t1 t2 t3 t4 ≃F whole 0
unfolding dielectric_rise* ◌*F◌ reciprocal
no_rise* n t1 t2 t3 t4 = record { left = lit< tt; right = lit< tt; across = omega arith }

-- and so a case without the loss has no rise by it
lossless : (x : List ℕ) → Wd_of x ≡ 0 → ((c : Chosen) → Wd_of* x c ≡ whole 0) → Uncounted x
lossless x loss loss* =
    let n = (own x).n in
    record {
      loss = loss;
      loss* = loss*;
      rise = rw loss (no_rise n (Field.t1 x) (Field.t2 x) (Field.t3 x) (soil_T4 x));
      rise* = λ c. rw (loss* c) (no_rise* n (Field.t1 x) (Field.t2 x) (Field.t3 x) (soil_T4 x));
    }

pub uncounted : (x : List ℕ) → Field.voltage x < Field.loss_voltage x → Uncounted x
unfolding Wd_of Wd_of* Wd Wd* loss_counts
uncounted x below =
    let not_counted = lt-leb (Field.loss_voltage x) (Field.voltage x) below in
    lossless x (either (λ wd. wd ≡ 0) (own x).alternates (simp not_counted) refl)
    (λ c. either (λ wd. wd ≡ whole 0) (own x).alternates (simp not_counted) refl)

pub direct_lossless : (x : List ℕ) → (own x).alternates ≡ false → Uncounted x
unfolding Wd_of Wd_of*
direct_lossless x direct = lossless x (simp direct) (λ c. simp direct)
