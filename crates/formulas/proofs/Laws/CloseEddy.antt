-- Stage 7's eddies against their exact values: S of the arrangements 3 and 4 is within 13080 parts in 10^12 and 1248 units of
-- 10^-16 Ω/m. m is at least 0.00015, so its rounding is a relative error; the later ones are units. Assumes nothing.
use Rattle.std.specs.Prelude.{ℕ, ◌*◌, ◌≤◌, ◌<◌}
use Rattle.std.proofs.Common.{mul-pos, mul-le-mul, le_refl, arith, lit<}
use Rattle.exact.specs.Rounding.{up}
use Rattle.exact.proofs.Laws.Rounding.{up_least_below}
use Rattle.exact.specs.Fraction.{Fraction, ◌over◌, whole, ◌+F◌, ◌*F◌, square, ◌≤F◌}
use Rattle.exact.proofs.Laws.Fraction.{closed≤, ≃F_refl}
use Rattle.exact.specs.Error.{Within}
use Rattle.exact.proofs.Laws.Error.{within_weaken, within_same, within_times, within_product}
use Rattle.exact.proofs.Laws.RoundingError.{within_up_after, within_up_over}
use Rattle.formulas.specs.Constants.{tera, IsPi}
use Rattle.formulas.specs.Reactance.{reactance, reactance*}
use Rattle.formulas.specs.Sheath.{eddy_ratio, eddy_ratio_squared, eddy_factor, eddy_spacing, eddy_loss, eddy_ratio*, eddy_factor*}
use Rattle.formulas.specs.Sheath.{eddy_loss*}
use Rattle.formulas.specs.Laws.Ranges.{In}
use Rattle.formulas.proofs.Laws.Ranges.{reactance_range, eddy_factor_most, eddy_inner_most}
use Rattle.formulas.proofs.Laws.CloseReactance.{reactance_close}
use Rattle.formulas.proofs.Laws.LogRange.{tera>0}
use Rattle.formulas.proofs.Laws.CloseSheath.{ratio_close, square_close, saturate_close}
use Rattle.formulas.specs.Laws.Bounds.{least_sheath_resistance, most_resistance, least_reactance, most_eddy_inner}
use Rattle.formulas.proofs.Laws.OverT.{quotient_close}

-- m, m2 and e'.

pub eddy_ratio_least : {b rs : ℕ} → least_reactance ≤ b → 5 * b ≤ rs → rs ≤ most_resistance → 154000000 ≤ eddy_ratio b rs
unfolding eddy_ratio tera
eddy_ratio_least b≥ b≤ rs≤ = up_least_below _ _ (omega arith) (omega arith)

pub eddy_ratio_close :
    {b rs : ℕ} {b* : Fraction} → least_reactance ≤ b → 5 * b ≤ rs → rs ≤ most_resistance → Within 40 (whole 0) b* (whole b) →
    Within 6540 (whole 0) (eddy_ratio* b* rs) (eddy_ratio b rs over tera)
unfolding eddy_ratio eddy_ratio*
eddy_ratio_close b≥ b≤ rs≤ p = ratio_close 6500 (omega arith) (omega (arith, eddy_ratio_least b≥ b≤ rs≤)) p

pub eddy_ratio_squared_close :
    {b rs : ℕ} {b* : Fraction} → least_reactance ≤ b → 5 * b ≤ rs → rs ≤ most_resistance → Within 40 (whole 0) b* (whole b) →
    Within 13080 (1 over tera) (square (eddy_ratio* b* rs)) (eddy_ratio_squared (eddy_ratio b rs) over tera)
unfolding eddy_ratio_squared
eddy_ratio_squared_close b≥ b≤ rs≤ p = square_close (eddy_ratio_close b≥ b≤ rs≤ p)

pub eddy_factor_close :
    {r m2 : ℕ} {u : Fraction} → Within r (1 over tera) u (m2 over tera) →
    Within r ((1 over tera) +F (1 over tera)) (eddy_factor* u) (eddy_factor m2 over tera)
unfolding eddy_factor eddy_factor*
eddy_factor_close {m2 = m2} p =
    let q = saturate_close p in
    within_up_over (omega (arith, tera>0)) tera>0
    (within_same (≃F_refl _ q.below.left)
    (record { left = q.below.right; right = mul-pos q.below.right tera>0; across = omega arith })
    q)

-- g', and S from the factors.

pub eddy_spacing_close : (d : ℕ) {s : ℕ} → 0 < s → Within 0 (1 over tera) (d * d over 4 * (s * s)) (eddy_spacing d s over tera)
unfolding eddy_spacing
eddy_spacing_close d s>0 = quotient_close (d * d) (omega (arith, mul-pos s>0 s>0))

-- two of 1/T of the largest Rs, and one rounding
inner_units : ((1 over tera) +F (1 over tera)) *F whole most_resistance +F whole 1 ≤F whole 815
unfolding ◌+F◌ ◌*F◌ tera
inner_units = closed≤ tt

inner_close :
    {r e rs : ℕ} {e* : Fraction} → rs ≤ most_resistance → Within r ((1 over tera) +F (1 over tera)) e* (e over tera) →
    Within r (whole 815) (e* *F whole rs) (whole (up (rs * e) tera))
unfolding ◌*F◌
inner_close {r} {rs = rs} rs≤ p =
    let at_most : whole rs ≤F whole most_resistance = record { left = lit< tt; right = lit< tt; across = omega arith } in
    let times_rs = within_times at_most p in
    within_weaken (le_refl r) inner_units
    (within_up_after tera>0
    (within_same (≃F_refl _ times_rs.below.left)
    (record { left = times_rs.below.right; right = tera>0; across = omega arith })
    times_rs))

-- six times the inner error, a quarter of that, one unit of g' times the rest, and one rounding
outer_units : whole 815 *F whole 6 *F (1 over 4) +F (1 over tera) *F whole 24420000000000 +F whole 1 ≤F whole 1248
unfolding ◌+F◌ ◌*F◌ tera
outer_units = closed≤ tt

outer_close :
    (rs : ℕ) (e* : Fraction) {r j n d s : ℕ} → j ≤ 2 → 0 < s → d ≤ s → n ≤ most_eddy_inner →
    Within r (whole 815) (e* *F whole rs) (whole n) →
    Within r (whole 1248) (whole (3 * j) *F whole rs *F e* *F (d * d over 4 * (s * s))) (whole (up (3 * j * n * eddy_spacing d s) tera))
unfolding ◌*F◌
outer_close rs e* {r} {j} {n} {d} {s} j≤ s>0 d≤s n≤ p =
    let cores : whole (3 * j) ≤F whole 6 = record { left = lit< tt; right = lit< tt; across = omega arith } in
    let quarter : d * d over 4 * (s * s) ≤F 1 over 4 =
    record { left = omega (arith, mul-pos s>0 s>0); right = lit< tt; across = omega (arith, mul-le-mul d≤s d≤s) }
    in
    let j3≤ : 3 * j ≤ 6 = omega arith in
    let rest : whole n *F whole (3 * j) ≤F whole 24420000000000 =
    record { left = lit< tt; right = lit< tt; across = omega (arith, mul-le-mul n≤ j3≤) }
    in
    let all = within_product quarter rest (within_times cores p) (eddy_spacing_close d s>0) in
    within_weaken (omega arith) outer_units
    (within_up_after tera>0
    (within_same
    (record { left = all.below.left; right = omega (arith, all.below.left); across = omega arith })
    (record { left = all.below.right; right = tera>0; across = omega arith })
    all))

pub eddy_close :
    {j f rs d s : ℕ} {π : Fraction} → IsPi π → In 1000 6500 f → In least_sheath_resistance most_resistance rs → 5 * reactance f ≤ rs →
    j ≤ 2 →
    0 < d → d ≤ s → Within 13080 (whole 1248) (eddy_loss* j (reactance* π f) rs d s) (whole (eddy_loss j (reactance f) rs d s))
unfolding eddy_loss eddy_loss*
eddy_close {f = f} {rs} pi f-range rs-range b≤ j≤ d>0 d≤s =
    let b≥ = (reactance_range f-range).least in
    let rs≤ = rs-range.most in
    let rs>0 : 0 < rs = omega (arith, rs-range.least) in
    let inner≤ = eddy_inner_most rs≤ (eddy_factor_most (reactance f) rs>0 b≤) in
    outer_close rs _ j≤ (omega arith) d≤s inner≤
    (inner_close rs≤ (eddy_factor_close (eddy_ratio_squared_close b≥ b≤ rs≤ (reactance_close pi f-range))))
