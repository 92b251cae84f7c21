-- Signed arithmetic on an i64. A signed operation writes its number as bits and the next one reads them back, so the laws here
-- say what is read back, and that a sum and a product are small where their operands are. Assumes nothing.
use Rattle.std.proofs.Common.{◌≡◌, ap, ◌∙◌, Bool, true, false, cond, ℕ, zero, suc, ◌+◌, ◌-◌, ◌*◌, ◌≤◌, arith, ltb, ℤ, pos, negsuc}
use Rattle.std.proofs.Common.{neg_ℤ, ◌+ℤ◌, ◌*ℤ◌, w64, to_z, of_z, SFits}
use Rattle.std.proofs.Math.Path.{subst⁻¹}
use Rattle.std.proofs.Math.IntN.{sub_ℕ}
use Rattle.std.specs.Int.Signed.{mag}
use Rattle.std.proofs.lemmas.Int.{to_z-of_z}

-- what is read back of the bits of z
abbrev pub read : ℤ → ℤ
read z = to_z w64 (of_z w64 z)

-- an operation's number x is z, which fits
pub record Is (x z : ℤ) : Type 0 where
  pub same : x ≡ z
  pub fits : SFits w64 z

module _ {x z : ℤ} (is : Is x z) where
  pub fits_as : SFits w64 x
  fits_as = subst⁻¹ (λ y. SFits w64 y) is.same is.fits

  pub read_as : read x ≡ z
  read_as = ap read is.same ∙ to_z-of_z w64 z is.fits

mag_sub : (a b : ℕ) → mag (sub_ℕ a (suc b)) ≤ a + b
mag_sub a b = go (ltb a (suc b))
  where
    go : (less : Bool) → mag (cond less (negsuc (suc b - suc a)) (pos (a - suc b))) ≤ a + b
    go true = omega arith
    go false = omega arith

pub mag_sum : (x y : ℤ) → mag (x +ℤ y) ≤ suc (mag x + mag y)
mag_sum (pos a) (pos b) = omega arith
mag_sum (pos a) (negsuc b) = omega (arith, mag_sub a b)
mag_sum (negsuc a) (pos b) = omega (arith, mag_sub b a)
mag_sum (negsuc a) (negsuc b) = omega arith

mag_neg : (n : ℕ) → mag (neg_ℤ (pos n)) ≤ n
mag_neg zero = omega arith
mag_neg (suc n) = omega arith

pub mag_times : (n : ℕ) (z : ℤ) → mag (pos n *ℤ z) ≤ n * suc (mag z)
mag_times n (pos a) = omega arith
mag_times n (negsuc a) = mag_neg (n * suc a)
