-- `sheafdawn::sheafdawn_start` meets its contract. Assumes nothing.
use Rattle.std.proofs.Common.{ne_eqb}
use Rattle.sheafdawn.specs.Calls.{start_call, written_call}
use Rattle.sheafdawn.proofs.Outs.{written}
use Rattle.sheafdawn.proofs.sheafdawn_start.Goals as goal

pub returns-then-out-ne1 : goal.returns-then-out-ne1
unfolding start_call written_call
returns-then-out-ne1 c = simp (ne_eqb _ _ c.if-out-ne1.true)

pub returns : goal.returns
unfolding start_call
returns c = written _ _ _ _ c.if-out-ne1.false c.put_used.ensures.number c.put_used.ensures.used c.start.ensures
