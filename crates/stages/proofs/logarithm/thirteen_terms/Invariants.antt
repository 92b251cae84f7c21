-- `stages::logarithm::thirteen_terms` meets its contract: its loop is the one of Series.antt, and what `End` says of the fixed
-- power lets it end sooner. Assumes nothing.
use Rattle.stages.proofs.Series.{Summed}
use Rattle.stages.proofs.logarithm.thirteen_terms.Given as goal

abbrev pub invariant-loop-j : goal.invariant-loop-j
invariant-loop-j g l = Summed g.R.Rounding.round l.first l.q l.p l.sum l.j
