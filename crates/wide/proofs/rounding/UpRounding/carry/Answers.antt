-- `Up::carry` meets its contract: the test of its branch is that of `upward`. Assumes nothing.
use Rattle.std.proofs.Common.{sym}
use Rattle.wide.specs.Laws.Split.{upward_none, upward_some}
use Rattle.wide.proofs.rounding.UpRounding.carry.Goals as goal

pub returns-then-rest-eq0 : goal.returns-then-rest-eq0
returns-then-rest-eq0 c = sym (upward_none 0 _ c.if-rest-eq0.true)

pub returns-else-rest-eq0 : goal.returns-else-rest-eq0
returns-else-rest-eq0 c = sym (upward_some 0 _ c.if-rest-eq0.false)
