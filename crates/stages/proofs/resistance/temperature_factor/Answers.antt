-- `stages::resistance::temperature_factor` meets its contract: each of the three signed operations has the paper's number, which
-- fits, and the last is above 0, so that it needs no sign. Assumes nothing.
use Rattle.std.proofs.Common.{Fits, SFits, T, ap, ap₂, arith, le_trans, mul-le-mul, nat_abs, neg_ℤ, pos, suc-le-suc, sym, to_z, w32}
use Rattle.std.proofs.Common.{w64, ℕ, ℤ, ◌*ℤ◌, ◌*◌, ◌+ℤ◌, ◌-ℤ◌, ◌∙◌, ◌≡◌, ◌≤◌}
use Rattle.std.proofs.Math.Path.{subst⁻¹}
use Rattle.std.specs.Int.Signed.{mag, non_neg}
use mir.ValLaws.{to_z-Fits}
use Rattle.formulas.specs.Resistance.{temperature_factor}
use Rattle.formulas.proofs.Laws.Temperature.{FactorRange, temperature_factor_range}
use Rattle.formulas.specs.Laws.Bounds.{most_coefficient, most_temperature_factor}
use Rattle.stages.specs.Laws.Ranges.{FactorRanges}
use Rattle.stages.proofs.Signed.{Is, read, fits_as, read_as, mag_sum, mag_times}
use Rattle.stages.proofs.resistance.temperature_factor.Goals as goal
use Rattle.stages.proofs.resistance.temperature_factor.Goals.{After-signed}

factor_fits : {z : ℤ} → FactorRange z → SFits w64 z
factor_fits range = fits_as (record { same = range.sign; fits = record { sfits = omega arith } })

unsigned : {z : ℤ} → FactorRange z → T (non_neg z) × Fits w64 (nat_abs z)
unsigned range = (subst⁻¹ (λ z. T (non_neg z)) range.sign tt, record { fits = omega arith })

-- a coefficient α, widened to a, and a temperature θ in range, where `signed` answers r
record Within (α : ℕ) (a θ r : ℤ) : Type 0 where
  widened : a ≡ pos α
  same : r ≡ θ
  word : SFits w32 θ
  ranges : FactorRanges α θ

module _ {α : ℕ} {a θ r : ℤ} (w : Within α a θ r) where
  coefficient : Is a (pos α)
  coefficient = record { same = w.widened; fits = record { sfits = omega (arith, w.ranges.α_most) } }

  temperature : Is r θ
  temperature = record { same = w.same; fits = record { sfits = omega arith } }

  difference_most : mag (θ -ℤ pos 2000) ≤ 2147485647
  difference_most = le_trans (mag_sum θ (neg_ℤ (pos 2000))) (omega arith)

  difference : Is (read r -ℤ pos 2000) (θ -ℤ pos 2000)
  difference =
      record {
        same = ap (λ x. x -ℤ pos 2000) (read_as temperature);
        fits = record { sfits = omega (arith, difference_most) };
      }

  product_most : mag (pos α *ℤ (θ -ℤ pos 2000)) ≤ most_coefficient * 2147485648
  product_most = le_trans (mag_times α (θ -ℤ pos 2000)) (mul-le-mul w.ranges.α_most (suc-le-suc difference_most))

  product : Is (read a *ℤ read (read r -ℤ pos 2000)) (pos α *ℤ (θ -ℤ pos 2000))
  product =
      record {
        same = ap₂ (λ x y. x *ℤ y) (read_as coefficient) (read_as difference);
        fits = record { sfits = omega (arith, product_most) };
      }

  range : FactorRange (temperature_factor α θ)
  range = temperature_factor_range α θ w.ranges.α_most w.ranges.θ_least w.ranges.θ_most

  factor : Is (pos 10000000 +ℤ read (read a *ℤ read (read r -ℤ pos 2000))) (temperature_factor α θ)
  unfolding temperature_factor
  factor = record { same = ap (λ x. pos 10000000 +ℤ x) (read_as product); fits = factor_fits range }

within : (c : After-signed) → Within c.args.alpha c.from.result (to_z w32 c.args.theta) c.signed.result
within c =
    record {
      widened = c.from.ensures;
      same = c.signed.ensures;
      word = to_z-Fits w32 c.args.theta (record { fits = omega arith });
      ranges = c.requires;
    }

pub overflow_cast-result : goal.overflow_cast-result
overflow_cast-result c = subst⁻¹ (λ z. T (non_neg z) × Fits w64 (nat_abs z)) (read_as (factor (within c))) (unsigned (range (within c)))

pub returns : goal.returns
returns c = let answer = read_as (factor (within c)) in
    let limits = range (within c) in
    record {
      factor_is = ap (λ z. pos (nat_abs z)) answer ∙ sym limits.sign;
      factor_most = subst⁻¹ (λ z. nat_abs z ≤ most_temperature_factor) answer limits.most;
    }
