-- `text::number::is_number` meets its contract: it is the test itself.
-- Assumes nothing.
use Rattle.std.proofs.Common.{rules}
use Rattle.text.specs.Leading.{is_number}
use Rattle.text.proofs.number.is_number.Goals as goal

pub returns : goal.returns
unfolding is_number
returns c = search rules
