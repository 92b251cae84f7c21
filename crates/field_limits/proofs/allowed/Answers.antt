-- `field_limits::allowed` is the definition: the limits are those of the row.
use Rattle.std.proofs.Common.{ap, ◌∙◌, rules, SFits, w64}
use Rattle.std.proofs.lemmas.Int.{to_z-of_z}
use Rattle.rating.specs.FieldRefusals.{moist}
use Rattle.field_limits.specs.Limits.{Limits}
use Rattle.field_limits.specs.Marked.{allowed}
use Rattle.field_limits.proofs.allowed.Goals as goal

pub returns : goal.returns
unfolding allowed moist
returns c =
    let row = c.row_of-row.result in
    let low_fits : SFits w64 row.low = search rules in
    let high_fits : SFits w64 row.high = search rules in
    let at_fits : SFits w64 c.value-at.result = search rules in
    let low = to_z-of_z w64 row.low low_fits ∙ ap (λ (r : Limits). r.low) c.row_of-row.ensures in
    let high = to_z-of_z w64 row.high high_fits ∙ ap (λ (r : Limits). r.high) c.row_of-row.ensures in
    let at = to_z-of_z w64 c.value-at.result at_fits ∙ c.value-at.ensures in
    simp (low, high, at)
