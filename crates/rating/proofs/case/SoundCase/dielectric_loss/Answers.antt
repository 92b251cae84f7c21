-- The logarithm of Di/ds is in its range, since refusal 5 keeps the insulation apart.
use Rattle.std.proofs.Common.{arith, ◌∙◌, ◌≡◌}
use Rattle.formulas.specs.Logarithm.{log_low}
use Rattle.fields.specs.Fields as Field
use Rattle.rating.proofs.Laws.Ranges.{B_range, insulation_log_range}
use Rattle.rating.proofs.case.SoundCase.dielectric_loss.Goals as goal
use Rattle.rating.proofs.case.SoundCase.dielectric_loss.Goals.{After-log}

log_is :
    (c : After-log) →
    let x = c.args.self.now.x in
    c.log.result ≡ log_low (Field.insulation_diameter x) (Field.screen_diameter x)
log_is c =
    let di = c.from-4.ensures in
    let ds = c.from-5.ensures in
    c.log.ensures ∙ (λ i. log_low (di i) (ds i))

pub dielectric_loss-requires : goal.dielectric_loss-requires
dielectric_loss-requires c =
    let fine = c.args.self.now.sound in
    let ac = fine.alternating c.requires.alternates in
    record {
      e_most = omega (arith, c.from.ensures, ac.permittivity);
      u0_most = omega (arith, c.from-2.ensures, fine.voltage);
      t_most = omega (arith, c.from-3.ensures, ac.loss_factor);
      b_most = omega (arith, c.requires.b_is, B_range ac);
      l_least = omega (arith, log_is c, insulation_log_range fine);
      l_most = omega (arith, log_is c, insulation_log_range fine);
    }
