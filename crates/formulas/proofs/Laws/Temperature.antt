-- Stage 1's factor is above 0 within the limits of the fields, however cold the sheath or the armour is, so its absolute value is
-- the factor itself. Assumes nothing.
use Rattle.std.specs.Prelude.{◌≡◌, refl, Bool, true, false, cond, ℕ, zero, suc, ◌-◌, ◌*◌, ◌≤◌, ltb, ℤ, pos, negsuc, neg_ℤ, ◌+ℤ◌, ◌-ℤ◌}
use Rattle.std.specs.Prelude.{◌*ℤ◌, nat_abs, ◌≤ℤ◌}
use Rattle.std.proofs.Common.{ap, mul-le-mul, arith, leb→le, ltb-true, le-ltb}
use Rattle.std.proofs.Math.Path.{subst⁻¹}
use Rattle.formulas.specs.Resistance.{temperature_factor}

-- z is a whole number above 0, and from 7.3 to 20.35 million
pub record FactorRange (z : ℤ) : Type 0 where
  pub sign : z ≡ pos (nat_abs z)
  pub least : 7300000 ≤ nat_abs z
  pub most : nat_abs z ≤ 20350000

-- z is from -6000 to 23000, as θ - 2000 is for θ from -4000 to 25000
abbrev Difference : ℤ → Type 0
Difference (pos n) = n ≤ 23000
Difference (negsuc n) = suc n ≤ 6000

sub_pos : (a k : ℕ) → k ≤ a → pos a +ℤ neg_ℤ (pos k) ≡ pos (a - k)
sub_pos a zero h = ap pos (omega arith)
sub_pos a (suc k) h = simp (le-ltb a (suc k) h)

factor_range : (α : ℕ) (z : ℤ) → α ≤ 450 → Difference z → FactorRange (pos 10000000 +ℤ pos α *ℤ z)
factor_range α (pos n) α≤ n≤ = record { sign = refl; least = omega arith; most = omega (arith, mul-le-mul α≤ n≤) }
factor_range α (negsuc n) α≤ n≤ =
    let drop≤ : α * suc n ≤ 2700000 = mul-le-mul α≤ n≤ in
    subst⁻¹ FactorRange (sub_pos 10000000 (α * suc n) (omega arith))
    (record { sign = refl; least = omega arith; most = omega arith })

difference : (θ : ℤ) → neg_ℤ (pos 4000) ≤ℤ θ → θ ≤ℤ pos 25000 → Difference (θ -ℤ pos 2000)
difference (pos n) low high = go (ltb n 2000) refl
  where
    go : (cold : Bool) → ltb n 2000 ≡ cold → Difference (cond cold (negsuc (2000 - suc n)) (pos (n - 2000)))
    go true e = omega (arith, ltb-true n 2000 e)
    go false e = omega (arith, leb→le n 25000 high.le)
difference (negsuc n) low high = omega (arith, leb→le n 3999 low.le)

pub temperature_factor_range :
    (α : ℕ) (θ : ℤ) → α ≤ 450 → neg_ℤ (pos 4000) ≤ℤ θ → θ ≤ℤ pos 25000 → FactorRange (temperature_factor α θ)
unfolding temperature_factor
temperature_factor_range α θ α≤ low high = factor_range α (θ -ℤ pos 2000) α≤ (difference θ low high)
