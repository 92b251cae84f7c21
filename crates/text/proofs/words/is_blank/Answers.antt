-- `text::words::is_blank` meets its contract: the code is the definition.
-- Assumes nothing.
use Rattle.std.proofs.Common.{refl}
use Rattle.text.specs.Words.{is_blank}
use Rattle.text.proofs.words.is_blank.Goals as goal

pub returns : goal.returns
unfolding is_blank
returns c = refl
