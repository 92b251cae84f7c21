-- `input::Lines::new` meets its contract: nothing is read yet.
-- Assumes nothing.
use Rattle.std.proofs.Common.{refl}
use Rattle.input.specs.Laws.Stream.{begins}
use Rattle.input.proofs.Lines.new.Goals as goal

pub returns-clause-awaits : goal.returns-clause-awaits
returns-clause-awaits g c xs known few = begins g.S.Source.remaining _ xs refl refl known few
