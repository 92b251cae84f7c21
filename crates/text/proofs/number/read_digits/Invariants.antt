-- `text::number::read_digits` meets its contract. The invariant: what the word says is what the digits from the index on say after the
-- value so far, which is within the limit.
-- Assumes nothing.
use Rattle.std.proofs.Common.{drop, ◌≡◌, ◌≤◌}
use Rattle.text.specs.Number.{read_digits}
use Rattle.text.proofs.Digits.{onward}
use Rattle.text.proofs.number.read_digits.Given as goal

abbrev pub invariant-loop-b : goal.invariant-loop-b
invariant-loop-b l = (l.value ≤ l.limit) × (read_digits l.limit l.w ≡ onward l.limit l.value (drop l.b-index l.w))
