-- The function `root` computes the integer square root, and there is only one. Assumes nothing.
use Rattle.std.specs.Prelude.{◌≡◌, refl, Bool, true, false, cond, ℕ, zero, suc, ◌+◌, ◌*◌, ◌/◌, ◌^◌, ◌<◌, leb, eqb}
use Rattle.std.proofs.Common.{le_antisymm, lt_of_not-le, mul-le-mul, pow-suc, arith, leb-true, leb-false, eqb-true}
use Rattle.std.proofs.Math.Nat.{pow-zero}
use Rattle.exact.specs.Root.{IsRoot, next, steps, root}

pub square_cancel_< : (a b : ℕ) → a * a < b * b → a < b
square_cancel_< a b h = lt_of_not-le (λ b≤a. omega (arith, mul-le-mul b≤a b≤a))

pub root_only : {x r s : ℕ} → IsRoot x r → IsRoot x s → r ≡ s
root_only {x} {r} {s} p q =
    le_antisymm
    (omega (arith, square_cancel_< r (s + 1) (omega arith)))
    (omega (arith, square_cancel_< s (r + 1) (omega arith)))

next_root : (x r : ℕ) → IsRoot (x / 4) r → IsRoot x (next x r)
unfolding next
next_root x r p = go (leb ((2 * r + 1) * (2 * r + 1)) x) refl
  where
    go : (odd : Bool) → leb ((2 * r + 1) * (2 * r + 1)) x ≡ odd → IsRoot x (cond odd (2 * r + 1) (2 * r))
    go true e = record { below = leb-true _ _ e; above = omega (arith, p.above) }
    go false e = record { below = omega (arith, p.below); above = leb-false _ _ e }

steps_root : (digits x : ℕ) → x < 4 ^ digits → IsRoot x (steps digits x)
unfolding steps
steps_root zero x h = record { below = omega arith; above = omega (arith, pow-zero 4) }
steps_root (suc digits) x h =
    go (eqb x 0) refl (next_root x _ (steps_root digits (x / 4) (omega (arith, pow-suc 4 digits))))
  where
    go : (none : Bool) → eqb x 0 ≡ none → IsRoot x (next x (steps digits (x / 4))) → IsRoot x (cond none 0 (next x (steps digits (x / 4))))
    go true e p = record { below = omega arith; above = omega (arith, eqb-true x 0 e) }
    go false e p = p

below_power : (x : ℕ) → x < 4 ^ x
below_power zero = omega (arith, pow-zero 4)
below_power (suc x) = omega (arith, pow-suc 4 x, below_power x)

pub root_is : (x : ℕ) → IsRoot x (root x)
unfolding root
root_is x = steps_root x x (below_power x)
