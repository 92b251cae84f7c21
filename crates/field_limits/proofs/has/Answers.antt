-- `field_limits::has` is the definition: the list that is looked through is that of the row.
use Rattle.std.specs.Prelude.{eqb}
use Rattle.std.proofs.Common.{ap, ◌∙◌}
use Rattle.std.specs.List.{list_any}
use Rattle.fields.specs.Fields as Field
use Rattle.field_limits.specs.Limits.{Limits}
use Rattle.field_limits.specs.Marked.{has}
use Rattle.field_limits.proofs.has.Goals as goal

pub returns : goal.returns
unfolding has
returns c =
    c.contains.ensures.value
    ∙ ap (λ (row : Limits). list_any (λ k. eqb k (Field.arrangement c.args.x)) row.arrangements) c.row_of.ensures
