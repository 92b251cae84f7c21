-- `field_limits::row_of` is the definition: as the table is, each row of it is.
use Rattle.std.specs.Prelude.{[], get_or}
use Rattle.std.proofs.Common.{ap, sym, ◌∙◌}
use Rattle.std.proofs.Math.ListN.{get_or-map}
use Rattle.field_limits.specs.Limits.{plain, row}
use Rattle.field_limits.specs.Table.{limits_of}
use Rattle.field_limits.proofs.row_of.Goals as goal

pub returns : goal.returns
unfolding row
returns c =
    sym (get_or-map limits_of c.all_rows.result c.args.field _)
    ∙ ap (λ rows. get_or rows c.args.field (plain 0 0 [])) c.all_rows.ensures
