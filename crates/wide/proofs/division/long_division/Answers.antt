-- `wide::division::long_division` meets its contract: the shifted number over the shifted divisor, in two digits, is the quotient of
-- the numbers as they were. Assumes nothing.
use Rattle.std.proofs.Common.{ap, arith, mul-le-mul_right, pow-add, pow_pos, subst, sym, ℕ, ◌%◌, ◌*◌, ◌+◌, ◌-◌, ◌/◌, ◌<◌, ◌^◌, ◌∙◌, ◌≡◌}
use Rattle.std.proofs.Math.Nat.{mul-div-mul_right, div-div-eq-div-mul}
use Rattle.std.specs.Int.{w64, leading_zeros}
use Rattle.wide.specs.Limbs.{value}
use Rattle.wide.specs.Shift.{IsShift}
use Rattle.wide.specs.Split.{Split}
use Rattle.wide.proofs.LongDivision.{one_limb, shifted_is, shifted_below, long_is}
use Rattle.wide.proofs.Shift.{leading_zeros_shift}
use Rattle.wide.proofs.division.long_division.Goals as goal
use Rattle.wide.proofs.division.long_division.Goals.{After-digit-second}

-- the bits of l that a shift by s moves out, taken by a shift the other way
moved_out : (l s : ℕ) → s < 64 → l / 2 / 2 ^ (63 - s) ≡ l * 2 ^ s / 2 ^ 64
moved_out l s s<64 =
    let exponent : 63 - s + s ≡ 63 = omega arith in
    let both : 2 ^ (63 - s) * 2 ^ s ≡ 2 ^ 63 = sym (pow-add 2 (63 - s) s) ∙ ap (λ (n : ℕ). 2 ^ n) exponent in
    let all : 2 * 2 ^ (63 - s) * 2 ^ s ≡ 2 ^ 64 = omega arith in
    div-div-eq-div-mul l 2 (2 ^ (63 - s))
    ∙ sym (mul-div-mul_right l (2 * 2 ^ (63 - s)) (pow_pos s))
    ∙ ap (λ (x : ℕ). l * 2 ^ s / x) all

-- the upper limb of (h, l) shifted by s
abbrev top : ℕ → ℕ → ℕ → ℕ
top h l s = h * 2 ^ s % 2 ^ 64 + l / 2 / 2 ^ (63 - s)

abbrev z : ℕ → ℕ
z c = leading_zeros w64 c

is_shift : {h c : ℕ} → h < c → c < 2 ^ 64 → IsShift c (z c)
is_shift {h} {c} h<c c< = leading_zeros_shift c (omega arith) c<

module _ (h l c : ℕ) (h<c : h < c) (l< : l < 2 ^ 64) (c< : c < 2 ^ 64) where
  top_is : h * 2 ^ z c + l * 2 ^ z c / 2 ^ 64 ≡ top h l (z c)
  top_is =
      let shift = is_shift h<c c< in
      omega (arith, shift.most, moved_out l (z c) shift.small, mul-le-mul_right {m = h} {n = c} (2 ^ z c) (omega arith))

  top_below : top h l (z c) < c * 2 ^ z c
  top_below =
      let p = 2 ^ z c in
      subst (λ (x : ℕ). x < c * p) top_is (shifted_below h l c p (2 ^ 64) (pow_pos (z c)) h<c l<)

  number_is : top h l (z c) * 2 ^ 64 + l * 2 ^ z c % 2 ^ 64 ≡ (h * 2 ^ 64 + l) * 2 ^ z c
  number_is =
      let p = 2 ^ z c in
      subst (λ (x : ℕ). x * 2 ^ 64 + l * p % 2 ^ 64 ≡ (h * 2 ^ 64 + l) * p) top_is (shifted_is h l p (2 ^ 64))

answer : (c : After-digit-second) →
    let a = c.args in
    Split (value a.n) a.c
    (c.digit-first.result.quotient * 4294967296 + c.digit-second.result.quotient)
    (c.digit-second.result.rest / 2 ^ z a.c)
unfolding value
answer c =
    let a = c.args in
    long_is a.n.hi a.n.lo a.c (2 ^ z a.c) _ _ (pow_pos (z a.c))
    (number_is a.n.hi a.n.lo a.c c.requires (omega arith) (omega arith))
    (omega (arith, (is_shift c.requires (omega arith)).most))
    c.digit-first.ensures
    c.digit-second.ensures

quotient_fits : (c : After-digit-second) → c.digit-first.result.quotient * 4294967296 + c.digit-second.result.quotient < 2 ^ 64
unfolding value
quotient_fits c = one_limb c.args.n.hi c.args.n.lo c.requires (omega arith) (answer c)

pub overflow_add-u : goal.overflow_add-u
overflow_add-u c = let a = c.args in
    let most = (is_shift c.requires (omega arith)).most in
    omega (arith, most, top_below a.n.hi a.n.lo a.c c.requires (omega arith) (omega arith))

pub digit-first-requires : goal.digit-first-requires
digit-first-requires c = let a = c.args in
    let shift = is_shift c.requires (omega arith) in
    omega (arith, shift.least, shift.most, top_below a.n.hi a.n.lo a.c c.requires (omega arith) (omega arith))

pub digit-second-requires : goal.digit-second-requires
digit-second-requires c = let shift = is_shift c.requires (omega arith) in
    omega (arith, shift.least, shift.most)

pub overflow_mul-result : goal.overflow_mul-result
overflow_mul-result c = omega (arith, quotient_fits (goal.at.overflow_mul-result c).After-digit-second)

pub overflow_add-result : goal.overflow_add-result
overflow_add-result c = record { fits = quotient_fits (goal.at.overflow_add-result c).After-digit-second }

pub returns : goal.returns
returns c = answer (goal.at.returns c).After-digit-second
