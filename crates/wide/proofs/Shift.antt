-- The count of the leading zeros of a number is the shift that brings its top bit to bit 63. Assumes nothing.
use Rattle.std.proofs.Common.{ap, arith, mul-le-mul_right, pow-add, shl_lt, subst, suc, sym, ℕ, ◌*◌, ◌+◌, ◌<◌, ◌^◌, ◌∙◌, ◌≡◌, ◌≤◌}
use Rattle.std.specs.Int.{w64, leading_zeros}
use Rattle.std.proofs.lemmas.Nat.{leading_top}
use Rattle.wide.specs.Shift.{IsShift}

-- j is the highest set bit of a, and there are z above it
shifted : (a z j : ℕ) → z + suc j ≡ 64 → 2 ^ j ≤ a → a < 2 ^ suc j → IsShift a z
shifted a z j e from below =
    let bits : j + z ≡ 63 = omega arith in
    let length : suc j + z ≡ 64 = omega arith in
    record {
      small = omega arith;
      least = subst (λ (n : ℕ). n ≤ a * 2 ^ z) (sym (pow-add 2 j z) ∙ ap (λ (n : ℕ). 2 ^ n) bits) (mul-le-mul_right (2 ^ z) from);
      most = subst (λ (n : ℕ). a * 2 ^ z < 2 ^ n) length (shl_lt (suc j) z below);
    }

pub leading_zeros_shift : (a : ℕ) → 0 < a → a < 2 ^ 64 → IsShift a (leading_zeros w64 a)
leading_zeros_shift a a>0 a< =
    let top = leading_top 64 a a>0 a< in shifted a (leading_zeros w64 a) top.0 top.1 top.2 top.3
