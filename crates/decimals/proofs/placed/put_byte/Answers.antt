-- `decimals::placed::put_byte` meets its contract: one store splices one byte in. Assumes nothing.
use Rattle.std.proofs.Common.{refl}
use Rattle.splice.proofs.Laws.Splice.{splice_one}
use Rattle.decimals.proofs.placed.put_byte.Goals as goal

pub returns : goal.returns
returns c = record { place_is = refl; list_is = splice_one _ _ _ c.requires }
