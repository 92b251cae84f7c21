-- `text::number::read_digits` meets its contract. The invariant: what the word says is what the digits from the index on say after the
-- value so far, which is within the limit.
-- Assumes nothing.
use Rattle.std.proofs.Common.{rules, arith, drop, get_or, refl, sym, ℕ, ◌-◌, zero-le, ◌*◌, ◌+◌, ◌∙◌, ◌≡◌}
use Rattle.text.specs.Number.{read_digits}
use Rattle.text.proofs.Digits.{onward, begin, empty, onward_byte, onward_over, onward_end}
use Rattle.text.proofs.number.read_digits.Goals as goal
use Rattle.text.proofs.number.read_digits.Goals.{After-checked_mul, In_ok-value}

pub returns-then-is_empty : goal.returns-then-is_empty
returns-then-is_empty c = empty _ _ (search rules)

pub loop-b-init : goal.loop-b-init
loop-b-init c = (zero-le, begin _ _ (search rules))

pub returns-then-not-is_ascii_digit : goal.returns-then-not-is_ascii_digit
returns-then-not-is_ascii_digit c =
    sym (c.loop-b.invariant.1 ∙ onward_byte _ _ _ _ _ c.loop-b-test.true c.if-not-is_ascii_digit.ensures.value)

-- a digit was read, and makes the value x
turn : (c : After-checked_mul) (x : ℕ) → c.loop-b.value * 10 + (get_or c.args.w.now c.loop-b.b-index 0 - 48) ≡ x
    → read_digits c.args.limit c.args.w.now ≡ onward c.args.limit x (drop (c.loop-b.b-index + 1) c.args.w.now)
turn c x e =
    let step = c.loop-b.invariant.1 ∙ onward_byte _ _ _ _ _ c.loop-b-test.true c.if-not-is_ascii_digit.ensures.value in
    cc

pub returns-in_err-checked_mul : goal.returns-in_err-checked_mul
returns-in_err-checked_mul c =
    let past = onward_over _ _ _ (omega (arith, c.ranges.limit.fits, c.in_err-checked_mul.ensures)) in
    c.from_residual.ensures ∙ sym (turn (goal.at.returns-in_err-checked_mul c).After-checked_mul _ refl ∙ past)

pub returns-in_err-value : goal.returns-in_err-value
returns-in_err-value c =
    let wide = c.in_err-value.ensures in
    let past = onward_over _ _ _ (omega (arith, c.ranges.limit.fits, wide, c.in_ok-checked_mul.ensures, c.from.ensures)) in
    c.from_residual-in_err-value.ensures ∙ sym (turn (goal.at.returns-in_err-value c).After-checked_mul _ refl ∙ past)

-- a digit was read, and the value after it fits
turn_fits : (c : In_ok-value) → c.loop-b.value * 10 + (get_or c.args.w.now c.loop-b.b-index 0 - 48) ≡ c.in_ok-value.value
turn_fits c = omega (arith, c.in_ok-value.ensures, c.in_ok-checked_mul.ensures, c.from.ensures)

pub returns-then-limit-value : goal.returns-then-limit-value
returns-then-limit-value c =
    let at = goal.at.returns-then-limit-value c in
    sym (turn at.After-checked_mul _ (turn_fits at.In_ok-value) ∙ onward_over _ _ _ c.if-limit-value.true)

pub loop-b-preserved : goal.loop-b-preserved
loop-b-preserved c =
    let at = goal.at.loop-b-preserved c in
    (omega arith, turn at.After-checked_mul _ (turn_fits at.In_ok-value))

pub returns : goal.returns
returns c = sym (c.loop-b.invariant.1 ∙ onward_end _ _ _ _ c.loop-b-test.false c.loop-b.invariant.0)
