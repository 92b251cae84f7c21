-- `text::words::skip_word` meets its contract: what is no blank is ink.
-- Assumes nothing.
use Rattle.std.proofs.Common.{rules}
use Rattle.text.specs.Words.{is_ink}
use Rattle.text.proofs.words.skip_word.Goals as goal

pub returns : goal.returns
unfolding is_ink
returns c = search rules
