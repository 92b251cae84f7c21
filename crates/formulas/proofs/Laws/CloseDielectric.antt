-- Stage 9 against its exact values: the lower end of the logarithm is within 2100 parts in 10^12 of the logarithm, and the loss and
-- the rise within 2200 parts and 1 or 2 units, since both may be small. Assumes nothing.
use Rattle.std.specs.Prelude.{ℕ, ◌*◌, ◌^◌, ◌≤◌, ◌<◌}
use Rattle.std.proofs.Common.{arith, lit<, lit≤}
use Rattle.exact.specs.Fraction.{Fraction, ◌over◌, whole, ◌+F◌, ◌*F◌, reciprocal, ◌≤F◌, ◌≃F◌}
use Rattle.exact.proofs.Laws.Fraction.{closed≤, ≃F_refl}
use Rattle.exact.specs.Error.{Within}
use Rattle.exact.proofs.Laws.Error.{within_weaken, within_trans, within_same, within_times, within_scale, within_relative_product}
use Rattle.exact.proofs.Laws.Error.{within_relative_reciprocal}
use Rattle.exact.proofs.Laws.RoundingError.{within_up}
use Rattle.formulas.specs.Constants.{tera, IsPi}
use Rattle.formulas.specs.Logarithm.{log_low, log_high, IsLog}
use Rattle.formulas.specs.Reactance.{reactance, reactance*}
use Rattle.formulas.specs.Dielectric.{dielectric_loss, dielectric_resistance, dielectric_rise, dielectric_loss*, dielectric_rise*}
use Rattle.formulas.specs.Laws.Bounds.{most_t4}
use Rattle.formulas.specs.Laws.Ranges.{In}
use Rattle.formulas.proofs.Laws.Ranges.{dielectric_resistance_most}
use Rattle.formulas.proofs.Laws.LogRange.{tera>0, log_low_least}
use Rattle.formulas.proofs.Laws.LogEndsGap.{log_gap}
use Rattle.formulas.proofs.Laws.CloseReactance.{reactance_close}
use Rattle.formulas.proofs.Laws.Between.{between_above}

-- the ends are at most 100 T-ths apart
pub insulation_log_close :
    {di ds : ℕ} {log : Fraction} → 0 < ds → 21 * ds ≤ 20 * di → di < 32768 * ds → IsLog di ds log →
    Within 2100 (whole 0) (log_low di ds over tera) log
insulation_log_close {di} {ds} ds>0 far near p =
    between_above 2100 (log_low di ds) (log_high di ds) tera tera>0
    (omega (arith, log_low_least di ds ds>0 far, log_gap di ds ds>0 (omega arith) near))
    p

pub loss_close :
    (e u0 t : ℕ) {π log : Fraction} {f di ds : ℕ} → IsPi π → In 1000 6500 f → IsLog di ds log → 0 < ds → 21 * ds ≤ 20 * di →
    di < 32768 * ds →
    Within 2200 (whole 1) (dielectric_loss* e u0 t (reactance* π f) log) (whole (dielectric_loss e u0 t (reactance f) (log_low di ds)))
unfolding dielectric_loss dielectric_loss* tera ◌+F◌ ◌*F◌ reciprocal
loss_close e u0 t {π} {log} {f} {di} {ds} pi range p ds>0 far near =
    let k = e * (u0 * u0) * t in
    let l>0 : 0 < log_low di ds = omega (arith, log_low_least di ds ds>0 far) in
    let l≠0 : 0 < 360 * 10 ^ 12 * log_low di ds = omega arith in
    let bottom = within_relative_reciprocal l≠0 (within_scale (whole (360 * 10 ^ 12)) (lit< tt) (insulation_log_close ds>0 far near p)) in
    let top = within_scale (whole k) (lit< tt) (reactance_close pi range) in
    let quotient = within_relative_product top bottom in
    let same :
    whole k *F whole (reactance f) *F reciprocal (whole (360 * 10 ^ 12) *F (log_low di ds over 10 ^ 12)) ≃F
    k * reactance f over 360 * log_low di ds =
    record { left = omega arith; right = omega arith; across = omega arith }
    in
    within_weaken (lit≤ tt) (closed≤ tt)
    (within_trans (within_same (≃F_refl _ quotient.below.left) same quotient) (within_up (k * reactance f) (omega arith)))

-- the factor is at most 1/2, so that a unit of the loss is less than one of the rise
pub dielectric_close :
    {n wd t1 t2 t3 t4 : ℕ} {wd* : Fraction} → n ≤ 3 → t1 ≤ 10000000 → t2 ≤ 10000000 → t3 ≤ 10000000 → t4 ≤ most_t4 →
    Within 2200 (whole 1) wd* (whole wd) →
    Within 2200 (whole 2) (dielectric_rise* n wd* t1 t2 t3 t4) (whole (dielectric_rise n wd t1 t2 t3 t4))
unfolding dielectric_rise dielectric_rise* ◌+F◌ ◌*F◌ reciprocal
dielectric_close {n} {wd} {t1} {t2} {t3} {t4} {wd*} n≤ t1≤ t2≤ t3≤ t4≤ p =
    let k = dielectric_resistance n t1 t2 t3 t4 in
    let half : whole k *F reciprocal (whole (2 * 10 ^ 12)) ≤F 1 over 2 =
    record { left = lit< tt; right = lit< tt; across = omega (arith, dielectric_resistance_most n≤ t1≤ t2≤ t3≤ t4≤) }
    in
    let scaled = within_times half p in
    let lower : wd* *F (whole k *F reciprocal (whole (2 * 10 ^ 12))) ≃F wd* *F whole k *F reciprocal (whole (2 * 10 ^ 12)) =
    record { left = scaled.below.left; right = omega (arith, scaled.below.left); across = omega arith }
    in
    let upper : whole wd *F (whole k *F reciprocal (whole (2 * 10 ^ 12))) ≃F wd * k over 2 * 10 ^ 12 =
    record { left = lit< tt; right = lit< tt; across = omega arith }
    in
    within_weaken (lit≤ tt) (closed≤ tt)
    (within_trans (within_same lower upper scaled) (within_up (wd * k) (lit< tt)))
