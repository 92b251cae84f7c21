-- `text::line::read_text` meets its contract: at each `return` the tests that led there say which case of `says` holds.
-- Assumes nothing.
use Rattle.std.proofs.Common.{List, eq-eqb, get_or, length, ne_eqb, ℕ, ◌<◌, ◌∙◌, ◌≡◌, ◌≤◌}
use Rattle.std.proofs.Math.Bool.{or-true}
use Rattle.text.specs.declared.line.Said.TheVariants.{PassedOver}
use Rattle.text.specs.Line.{case_fields, says}
use Rattle.text.specs.Laws.Runs.{left, nothing_left}
use Rattle.text.specs.Words.{is_blank, run_end}
use Rattle.text.proofs.Fields.{past_blanks}
use Rattle.text.proofs.line.read_text.Goals as goal

blank : (s : List ℕ) (from : ℕ) → from ≡ run_end is_blank s 0 → length s ≤ from → PassedOver ≡ says s
unfolding says
blank s from e h = rw (past_blanks s 0 from e, nothing_left s from h)

comment : (s : List ℕ) → get_or s 0 0 ≡ 35 → PassedOver ≡ says s
unfolding says
comment s h = simp (eq-eqb _ _ h, or-true)

numbers : (s : List ℕ) (from : ℕ) → from ≡ run_end is_blank s 0 → from < length s → (get_or s 0 0 ≡ 35 → ⊥)
    → case_fields s ≡ says s
unfolding says
numbers s from e h k = rw (past_blanks s 0 from e, left s from h, ne_eqb _ _ k)

pub returns : goal.returns
returns c = c.read_fields.ensures ∙ numbers _ _ c.skip_blanks.ensures c.if-s-skip_blanks.false c.if-s-eq35.false

pub returns-then-s-skip_blanks : goal.returns-then-s-skip_blanks
returns-then-s-skip_blanks c = blank _ _ c.skip_blanks.ensures c.if-s-skip_blanks.true

pub returns-then-s-eq35 : goal.returns-then-s-eq35
returns-then-s-eq35 c = comment _ c.if-s-eq35.true
