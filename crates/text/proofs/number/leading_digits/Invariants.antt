-- `text::number::leading_digits` meets its contract. The invariant: the bytes passed are digits of the value so far, which is below 10^i,
-- and the digits from there on end where all do.
-- Assumes nothing.
use Rattle.std.proofs.Common.{List, ℕ, ◌+◌, ◌<◌, ◌^◌, ◌≡◌, ◌≤◌}
use Rattle.text.specs.Leading.{DigitsIn}
use Rattle.text.specs.Number.{is_digit}
use Rattle.text.specs.Words.{run_end}
use Rattle.text.proofs.number.leading_digits.Given as goal

-- i digits of the value so far, and the digits from there on end where all do
pub record Read-so-far (s : List ℕ) (from value i : ℕ) : Type 0 where
  pub few : i ≤ 10
  pub small : value < 10 ^ i
  pub digits : DigitsIn s from (from + i) value
  pub same_end : run_end is_digit s (from + i) ≡ run_end is_digit s from

abbrev pub invariant-loop-i : goal.invariant-loop-i
invariant-loop-i l = Read-so-far l.s l.from l.value l.i
