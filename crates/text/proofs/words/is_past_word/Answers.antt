-- `text::words::is_past_word` meets its contract: a blank ends a run of ink, and so does the end.
-- Assumes nothing.
use Rattle.std.proofs.Common.{rules, Bool, List, ap, arith, drop, false, get_or, length, ltb, ltb-false, ltb-true, not, refl, true, ℕ}
use Rattle.std.proofs.Common.{◌<◌, ◌≡◌}
use Rattle.text.specs.Laws.Runs.{run_stop, run_end_past}
use Rattle.text.specs.Words.{is_blank, is_ink, run}
use Rattle.text.proofs.words.is_past_word.Goals as goal

ends : (s : List ℕ) (at : ℕ) → (at < length s → is_blank (get_or s at 0) ≡ true) → run is_ink (drop at s) ≡ 0
unfolding is_ink
ends s at blank = go (ltb at (length s)) refl
  where
    go : (t : Bool) → ltb at (length s) ≡ t → run is_ink (drop at s) ≡ 0
    go true e =
        let inside = ltb-true at (length s) e in
        omega (arith, run_stop is_ink s at inside (ap not (blank inside)))
    go false e = omega (arith, run_end_past is_ink s at (ltb-false at (length s) e))

pub returns : goal.returns
returns c e = ends c.args.s.now c.args.at (search rules)
