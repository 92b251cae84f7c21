-- How the last digits of a number come from one with a one in front of them, and how long a written number is. Assumes nothing.
use Rattle.std.proofs.Common.{List, [], ◌∷◌, ◌++◌, ◌≡◌, sym, ap, ◌∙◌, ℕ, zero, suc, ◌+◌, ◌*◌, ◌/◌, ◌%◌, ◌^◌, ◌≤◌, ◌<◌, pow-suc}
use Rattle.std.proofs.Common.{arith, drop, length, lit<, lt_of_le_of_lt, mod-lt}
use Rattle.std.proofs.Math.Nat.{one-le-pow, pow-le-pow_right}
use Rattle.std.specs.Fmt.{decimal as written}
use Rattle.decimals.specs.Decimal.{decimal, padded}
use Rattle.decimals.proofs.Laws.Decimal.{decimal_small, decimal_large, padded_mod}
use Rattle.decimals.proofs.Laws.Library.{decimal_is_written}
use Rattle.decimals.proofs.Laws.Parts.{padded_length}

-- a one in front keeps the zeros after it
pub one_ahead : (d r : ℕ) → r < 10 ^ d → decimal (10 ^ d + r) ≡ 49 ∷ padded d r
unfolding padded
one_ahead zero r h = decimal_small (1 + r) (omega arith) ∙ ap (λ (b : ℕ). b ∷ []) (omega arith)
one_ahead (suc d) r h =
    let p = 10 ^ d in
    let some : 1 ≤ p = one-le-pow d 10 (lit< tt) in
    let ten : 10 ^ suc d ≡ p * 10 = pow-suc 10 d in
    let below : r / 10 < p = omega arith in
    let tenth : (p * 10 + r) / 10 ≡ p + r / 10 = omega arith in
    let last : (p * 10 + r) % 10 + 48 ≡ r % 10 + 48 = omega arith in
    ap (λ (q : ℕ). decimal (q + r)) ten
    ∙ decimal_large (p * 10 + r) (omega arith)
    ∙ ap (λ (k : ℕ). decimal k ++ (((p * 10 + r) % 10 + 48) ∷ [])) tenth
    ∙ ap (λ (b : ℕ). decimal (p + r / 10) ++ (b ∷ [])) last
    ∙ ap (λ (t : List ℕ). t ++ ((r % 10 + 48) ∷ [])) (one_ahead d (r / 10) below)

-- a power of ten with at most 16 zeros
module _ (d one : ℕ) (power : one ≡ 10 ^ d) where
  pub positive : 0 < one
  positive = rw power (one-le-pow d 10 (lit< tt))

  module _ (few : d ≤ 16) (x : ℕ) where
    pub sum_small : one + x % one ≤ 20000000000000000
    sum_small =
        let small : one ≤ 10000000000000000 = rw power (pow-le-pow_right (lit< tt) {i = d} {j = 16} few) in
        omega (arith, small, mod-lt x positive)

    -- what the library writes of the one and the last digits
    pub written_ahead : written (one + x % one) ≡ 49 ∷ padded d x
    written_ahead =
        sym (decimal_is_written (one + x % one) (lt_of_le_of_lt sum_small (lit< tt)))
        ∙ rw power (one_ahead d (x % 10 ^ d) (mod-lt x (one-le-pow d 10 (lit< tt))))
        ∙ ap (λ (t : List ℕ). 49 ∷ t) (padded_mod d x)

    -- and behind the one
    module _ {text part : List ℕ} (is_written : text ≡ written (one + x % one)) (is_behind : part ≡ drop 1 text) where
      pub behind : part ≡ padded d x
      behind = is_behind ∙ ap (drop 1) (is_written ∙ written_ahead)

      pub behind_length : length part ≡ d
      behind_length = ap length behind ∙ padded_length d x
