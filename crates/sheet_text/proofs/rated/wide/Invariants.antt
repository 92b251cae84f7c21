-- `sheet_text::rated::wide` meets its contract. The invariant: the numbers so far are those of the sheet. Assumes nothing.
use Rattle.std.proofs.Common.{ℕ, get_or, length, pos, ◌<◌, ◌≡◌}
use Rattle.sheet_text.proofs.rated.wide.Given as goal

abbrev pub invariant-loop-i : goal.invariant-loop-i
invariant-loop-i l =
    (length l.values ≡ 13) × ((k : ℕ) → k < l.i → get_or l.values k (pos 0) ≡ pos (get_or l.sheet k 0))
