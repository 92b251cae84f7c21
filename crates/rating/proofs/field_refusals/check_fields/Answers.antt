-- `check_fields` is the definition: each test that lets the case pass leaves the later ones. Refusal 1 is not given to an arrangement,
-- and 7 is given by its answer alone.
use Rattle.std.proofs.Common.{rules}
use Rattle.bools.specs.First.{or_refused}
use Rattle.rating.specs.FieldRefusals.{metal_refused, field_refusals}
use Rattle.rating.proofs.field_refusals.check_fields.Goals as goal

pub returns-then-not-rules : goal.returns-then-not-rules
unfolding or_refused field_refusals metal_refused
returns-then-not-rules c = search rules

pub returns-then-direct_voltage_refused : goal.returns-then-direct_voltage_refused
unfolding or_refused field_refusals metal_refused
returns-then-direct_voltage_refused c = search rules

pub returns : goal.returns
unfolding or_refused field_refusals metal_refused
returns c = search rules
