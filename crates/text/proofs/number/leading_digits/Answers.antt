-- `text::number::leading_digits` meets its contract. The invariant: the bytes passed are digits of the value so far, which is below 10^i,
-- and the digits from there on end where all do.
-- Assumes nothing.
use Rattle.std.proofs.Common.{List, ap, arith, false, get_or, length, subst, sym, ℕ, ◌*◌, ◌+◌, ◌-◌, ◌<◌, ◌^◌, ◌∙◌, ◌≡◌, ◌≤◌}
use Rattle.text.specs.Leading.{DigitsIn, digits_end}
use Rattle.text.specs.Laws.Leading.{digits_none, digits_more, small_more}
use Rattle.text.specs.Number.{is_digit}
use Rattle.text.specs.Laws.Number.{is_digit_within}
use Rattle.text.specs.Laws.Runs.{run_more, run_stop}
use Rattle.text.specs.Words.{run_end}
use Rattle.text.proofs.number.leading_digits.Invariants.{Read-so-far}
use Rattle.text.proofs.number.leading_digits.Goals as goal
use Rattle.std.specs.Char.{IsAsciiDigit}

-- the digits end after i of them: there are ten, or another byte stands there
module _ {s : List ℕ} {from value i : ℕ} (on : Read-so-far s from value i) where
  ten : 10 ≤ i → from + i ≡ digits_end s from
  unfolding digits_end
  ten h = omega (arith, on.few, on.same_end)

  no_digit : from + i < length s → is_digit (get_or s (from + i) 0) ≡ false → from + i ≡ digits_end s from
  unfolding digits_end
  no_digit h e = omega (arith, on.few, on.same_end, run_stop is_digit s (from + i) h e)

pub loop-i-init : goal.loop-i-init
loop-i-init c = let a = c.args in
    let here : a.from ≡ a.from + 0 = omega arith in
    record {
      few = omega arith;
      small = omega arith;
      digits = subst (λ (n : ℕ). DigitsIn a.s.now a.from n 0) here (digits_none _ _ (omega arith));
      same_end = ap (run_end is_digit a.s.now) (sym here);
    }

pub loop-i-preserved : goal.loop-i-preserved
loop-i-preserved c = let on = c.loop-i.invariant in
    let a = c.args in
    let i = c.loop-i.i in
    let b = get_or a.s.now (a.from + i) 0 in
    let digit : IsAsciiDigit b = c.if-not-is_ascii_digit.ensures.cases in
    let inside : a.from + i < length a.s.now = omega arith in
    let next : a.from + i + 1 ≡ a.from + (i + 1) = omega arith in
    let more = digits_more _ _ (a.from + i) _ on.digits inside digit.0 digit.1 in
    let further = run_more is_digit _ (a.from + i) inside (is_digit_within b digit.0 digit.1) in
    let read : c.loop-i.value * 10 + (b - 48) ≡ c.loop-i.value * 10 + c.from.result = cc in
    record {
      few = omega arith;
      small = subst (λ (v : ℕ). v < 10 ^ (i + 1)) read (small_more i _ b on.small digit.1);
      digits =
          subst (λ (n : ℕ). DigitsIn a.s.now a.from n (c.loop-i.value * 10 + c.from.result)) next
          (subst (DigitsIn a.s.now a.from (a.from + i + 1)) read more);
      same_end = ap (run_end is_digit a.s.now) (sym next) ∙ sym further ∙ on.same_end;
    }

pub returns-then-not-is_ascii_digit : goal.returns-then-not-is_ascii_digit
unfolding is_digit
returns-then-not-is_ascii_digit c =
    record {
      end = no_digit c.loop-i.invariant (omega arith) (sym c.if-not-is_ascii_digit.ensures.value);
      digits = c.loop-i.invariant.digits;
    }

pub returns : goal.returns
returns c =
    let on = c.loop-i.invariant in
    let all : c.loop-i.i ≡ 10 = omega arith in
    record {
      end = ap (λ (n : ℕ). c.args.from + n) (sym all) ∙ ten on (omega arith);
      digits = subst (λ (n : ℕ). DigitsIn c.args.s.now c.args.from (c.args.from + n) c.loop-i.value) all on.digits;
    }
