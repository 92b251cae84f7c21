-- `tables::factors_of` hands out the row of a code: as all rows agree with the definition, this one does.
use Rattle.std.proofs.Common.{rules}
use Rattle.formulas.proofs.Laws.TableRule.{at_code}
use Rattle.tables.specs.Laws.Agree.{factors_agree, agreeing_factors}
use Rattle.tables.proofs.factors_of.Goals as goal

pub returns : goal.returns
returns c = let rows = c.all_factors in
    agreeing_factors (at_code factors_agree rows.result _ rows.ensures (search rules) c.requires)
