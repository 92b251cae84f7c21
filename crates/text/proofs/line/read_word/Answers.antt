-- `text::line::read_word` meets its contract: at most ten digits after which no word goes on are the word, and any other word is
-- read from its start to its end.
-- Assumes nothing.
use Rattle.std.proofs.Common.{sym}
use Rattle.text.specs.Gather.{piece}
use Rattle.text.specs.Laws.Leading.{word_ends, word_says}
use Rattle.text.specs.Laws.Runs.{run_within}
use Rattle.text.specs.Words.{is_ink}
use Rattle.text.proofs.line.read_word.Goals as goal

pub returns-then-is_past_word : goal.returns-then-is_past_word
returns-then-is_past_word c =
    let number = c.in-Some.ensures in
    let past = c.is_past_word.ensures c.if-is_past_word.true in
    record { end_is = word_ends _ _ _ _ number.digits past; said_is = sym (word_says number) }

pub slice_bounds-read_number-end : goal.slice_bounds-read_number-end
slice_bounds-read_number-end c = rw c.skip_word-end.ensures (run_within is_ink _ _ c.requires)

pub returns : goal.returns
unfolding piece
returns c = record { end_is = c.skip_word-end.ensures; said_is = c.read_number-said.ensures }
