-- `stages::logarithm::thirteen_terms` meets its contract: its loop is the one of Series.antt, and what `End` says of the fixed
-- power lets it end sooner. Assumes nothing.
use Rattle.std.proofs.Common.{arith}
use Rattle.stages.proofs.Series.{begin, more_total, more, done}
use Rattle.stages.proofs.logarithm.thirteen_terms.Goals as goal

pub loop-j-init : goal.loop-j-init
loop-j-init g c = begin g.met.R.End.bounded c.requires c.mul_div_trillion-q.ensures

pub loop-j-preserved : goal.loop-j-preserved
loop-j-preserved g c = more g.met.R.End.bounded c.loop-j.invariant c.loop-j-test.true c.rounded-sum.ensures c.mul_div_trillion-p.ensures

pub overflow_add-sum : goal.overflow_add-sum
overflow_add-sum g c = omega (arith, more_total g.met.R.End.bounded c.loop-j.invariant c.loop-j-test.true c.rounded-sum.ensures)

pub returns : goal.returns
returns g c = done c.loop-j.invariant c.loop-j-test.false
