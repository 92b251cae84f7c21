-- `sheafdawn::put_used` meets its contract. Assumes nothing.
use Rattle.book_laws.specs.Start.{unwritten}
use Rattle.sheafdawn.proofs.Outs.{one_place}
use Rattle.sheafdawn.proofs.put_used.Goals as goal

pub returns-in-Err-clause-number : goal.returns-in-Err-clause-number
unfolding unwritten
returns-in-Err-clause-number c = rw (c.in-Err.is) c.from.ensures

pub returns-in-Err-clause-used : goal.returns-in-Err-clause-used
unfolding unwritten
returns-in-Err-clause-used c = rw (c.in-Err.is) (one_place _ _ c.requires)
