-- `input::Lines::next_line` meets its contract. The invariant: `left` reads are left, and of the bound on the lines some is spent once the
-- line has a byte; of the bytes that were to come a part is gathered, which has no line feed, and the others are still to come.
-- Assumes nothing.
use Rattle.std.proofs.Common.{length, List, ℕ, ◌<◌, ◌≡◌, ◌≤◌}
use Rattle.input.specs.State.{most_lines}
use Rattle.input.specs.Stream.{Awaits}
use Rattle.input.specs.Laws.Stream.{Gathered}
use Rattle.input.proofs.Lines.next_line.Given as goal

abbrev pub invariant-loop-left : goal.invariant-loop-left
invariant-loop-left g l =
    let now = most_lines l.self.at l.self.end l.self.reads in
    let before = most_lines l.initial.self.at l.initial.self.end l.initial.self.reads in
    record {
      counted : l.self.reads ≡ l.left;
      bound : now ≤ before;
      spent : 0 < length l.line.items → now < before;
      gathered : (xs : List ℕ) → Awaits g.S.Source.remaining l.initial.self xs
          → Gathered g.S.Source.remaining l.line.items l.self xs;
    }
