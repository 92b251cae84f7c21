-- A small whole number taken from a small number, both as an i128: the difference fits, and is what is read back of its bits.
-- Assumes nothing.
use Rattle.std.proofs.Common.{◌≡◌, ap, ◌∙◌, Bool, true, false, cond, ℕ, zero, suc, ◌+◌, ◌-◌, ◌^◌, ◌≤◌, ◌<◌, arith, ltb, ℤ, pos, negsuc}
use Rattle.std.proofs.Common.{◌-ℤ◌, to_z, of_z, SFits, lit≤, lt_of_lt_of_le, lt_of_le_of_lt}
use Rattle.std.proofs.Math.Path.{subst⁻¹}
use Rattle.std.proofs.Math.IntN.{sub_ℕ}
use Rattle.std.specs.Int.{w128}
use Rattle.std.specs.Int.Signed.{mag}
use Rattle.std.proofs.lemmas.Int.{to_z-of_z, to_z_pos}

size_sub : (a b : ℕ) → mag (sub_ℕ a (suc b)) ≤ a + b
size_sub a b = by_order (ltb a (suc b))
  where
    by_order : (less : Bool) → mag (cond less (negsuc (suc b - suc a)) (pos (a - suc b))) ≤ a + b
    by_order true = omega arith
    by_order false = omega arith

-- the difference is no further from 0 than the two together
size : (x : ℤ) (d : ℕ) → mag (x -ℤ pos d) ≤ mag x + d
size (pos a) zero = omega arith
size (pos a) (suc d) = omega (arith, size_sub a d)
size (negsuc a) zero = omega (arith, size_sub zero a)
size (negsuc a) (suc d) = omega arith

abbrev pub read : ℤ → ℤ
read z = to_z w128 (of_z w128 z)

module _ (x : ℤ) (d : ℕ) (small-x : mag x < 2 ^ 120) (small-d : d < 2 ^ 120) where
  operands : read x -ℤ to_z w128 d ≡ x -ℤ pos d
  operands =
      ap (λ z. z -ℤ to_z w128 d) (to_z-of_z w128 x (record { sfits = lt_of_lt_of_le small-x (lit≤ tt) }))
      ∙ ap (λ z. x -ℤ z) (to_z_pos w128 d (lt_of_lt_of_le small-d (lit≤ tt)))

  fits : SFits w128 (x -ℤ pos d)
  fits =
      let together : mag x + d < 2 ^ 121 = omega arith in
      record { sfits = lt_of_le_of_lt (size x d) (lt_of_lt_of_le together (lit≤ tt)) }

  pub drop_fits : SFits w128 (pos d)
  drop_fits = record { sfits = lt_of_lt_of_le small-d (lit≤ tt) }

  pub difference_fits : SFits w128 (read x -ℤ to_z w128 d)
  difference_fits = subst⁻¹ (λ z. SFits w128 z) operands fits

  pub difference_read : read (read x -ℤ to_z w128 d) ≡ x -ℤ pos d
  difference_read = ap read operands ∙ to_z-of_z w128 (x -ℤ pos d) fits
