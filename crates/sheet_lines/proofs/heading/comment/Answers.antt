-- `sheet_lines::heading::comment` meets its contract: the blanks end in the text. Assumes nothing.
use Rattle.std.proofs.Common.{arith, rules, zero-le, List, length, ◌≤◌, ◌≡◌, ℕ}
use Rattle.text.specs.Words.{is_blank, run_end}
use Rattle.text.specs.Laws.Runs.{run_within}
use Rattle.sheet_lines.proofs.heading.comment.Goals as goal

blanks_end : (text : List ℕ) (at : ℕ) → at ≡ run_end is_blank text 0 → at ≤ length text
blanks_end text at is = omega (arith, is, run_within is_blank text 0 zero-le)

pub slice_bounds-result-count : goal.slice_bounds-result-count
slice_bounds-result-count c = blanks_end c.behind-text.result.now c.skip_blanks.result c.skip_blanks.ensures

pub slice_bounds-result-start : goal.slice_bounds-result-start
slice_bounds-result-start c = let end = blanks_end c.behind-text.result.now c.skip_blanks.result c.skip_blanks.ensures in search rules
