-- `text::line::read_fields` meets its contract. The invariant: the line goes on after each of the i numbers read so far, and what it says
-- is these in front of what the words from `at` on say.
-- Assumes nothing.
use Rattle.std.proofs.Common.{List, drop, length, replicate, take, ℕ, ◌+◌, ◌-◌, ◌<◌, ◌≡◌, ◌≤◌}
use Rattle.text.specs.declared.line.Said.TheVariants.{Unreadable}
use Rattle.text.specs.Laws.After.{after}
use Rattle.text.specs.Line.{fields}
use Rattle.fields.specs.Fields.{width}
use Rattle.text.proofs.line.read_fields.Given as goal

-- of a room l for n numbers those before i have been read, and the words from `at` on are left
pub record Reading-on (n : ℕ) (s l : List ℕ) (at i : ℕ) : Type 0 where
  pub count : i ≤ n
  pub within : at ≤ length s
  pub room : length l ≡ n
  pub zeros : drop i l ≡ replicate (n - i) 0
  pub fewer : (k : ℕ) → k < i → fields k s ≡ Unreadable
  pub same : (k : ℕ) → fields (i + k) s ≡ after (take i l) (fields k (drop at s))

abbrev pub invariant-loop-i : goal.invariant-loop-i
invariant-loop-i l = Reading-on width l.s l.fields l.at l.i
