-- `tables::coefficient` is the definition: as all entries agree with it, this one does.
use Rattle.std.proofs.Common.{eqb-true, rules}
use Rattle.formulas.proofs.Laws.TableRule.{at_code}
use Rattle.tables.specs.Laws.Agree.{coefficient_agrees}
use Rattle.tables.proofs.coefficient.Goals as goal

pub returns : goal.returns
returns c = let rows = c.all_coefficients in
    eqb-true _ _ (at_code coefficient_agrees rows.result _ rows.ensures (search rules) c.requires)
