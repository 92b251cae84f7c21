-- `text::line::read_line` meets its contract: a line that is too long is unreadable, and any other is read without its carriage return.
-- Assumes nothing.
use Rattle.std.proofs.Common.{List, ap, arith, le-ltb, length, sym, take, ℕ, ◌∙◌, ◌≡◌, ◌≤◌}
use Rattle.text.specs.Laws.Gather.{too_long}
use Rattle.text.specs.Line.{says, text_length, longest_line, read_line}
use Rattle.text.proofs.line.read_line.Goals as goal

taken : (l : List ℕ) → length l ≤ longest_line → says (take (text_length l) l) ≡ read_line l
unfolding read_line
taken l h = simp (le-ltb _ _ h)

pub returns-then-line-gt-LONGEST : goal.returns-then-line-gt-LONGEST
returns-then-line-gt-LONGEST c = sym (too_long _ (omega arith))

pub returns : goal.returns
returns c = c.read_text.ensures ∙ ap says c.text_of.ensures ∙ taken _ c.if-line-gt-LONGEST.false
