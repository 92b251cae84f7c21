-- `line_in_place::plain::plain_line` meets its contract. The invariant: the numbers read so far are a row, and each took twelve bytes at
-- most.
-- Assumes nothing.
use Rattle.std.proofs.Common.{List, drop, length, replicate, take, ℕ, ◌*◌, ◌+◌, ◌-◌, ◌≡◌, ◌≤◌}
use Rattle.fields.specs.Fields.{width}
use Rattle.line_in_place.specs.Plain.{longest_plain}
use Rattle.line_in_place.specs.Laws.Row.{Row}
use Rattle.line_in_place.proofs.plain.plain_line.Given as goal

-- of a room l for n numbers those before i are a row from `from` to `at`
pub record Reading-on (n : ℕ) (s : List ℕ) (from : ℕ) (l : List ℕ) (at i : ℕ) : Type 0 where
  pub space : from + longest_plain n ≤ length s
  pub count : i ≤ n
  pub near : at ≤ from + i * 12
  pub room : length l ≡ n
  pub zeros : drop i l ≡ replicate (n - i) 0
  pub row : Row s from at i (take i l)

abbrev pub invariant-loop-i : goal.invariant-loop-i
invariant-loop-i l = Reading-on width l.s l.from l.fields l.at l.i
