-- `line_in_place::number::number_at` meets its contract: digits to 4294967295 are a number, and so may be what begins with a minus sign.
-- Assumes nothing.
use Rattle.std.proofs.Common.{rules}
use Rattle.line_in_place.specs.Laws.NumberAt.{without_sign}
use Rattle.line_in_place.proofs.number.number_at.Goals as goal

pub returns : goal.returns
returns c = search (rules, without_sign)
