-- `sheet_text::rated::put_rating` meets its contract: the rating is read back as it was passed. Assumes nothing.
use Rattle.std.proofs.Common.{[], ap, ℤ, ◌++◌, ◌∙◌}
use Rattle.std.specs.Int.{w128}
use Rattle.std.proofs.lemmas.Int.{to_z-of_z}
use Rattle.row_text.specs.Row.{row}
use Rattle.sheet_text.specs.NumberRows.{labelled}
use Rattle.sheet_text.specs.Numbers.{digits}
use Rattle.sheet_text.specs.Sheet.{rating_row}
use Rattle.sheet_text.proofs.rated.put_rating.Goals as goal

pub returns-clause-text : goal.returns-clause-text
unfolding rating_row
returns-clause-text g c =
    c.put_row.ensures.text
    ∙ ap (λ (z : ℤ). c.args.out.now.bytes ++ row [] digits (labelled "RATING" "A" "largest continuous current" 3) z)
    (to_z-of_z w128 c.from.result (record { sfits = c.from.type_inv }) ∙ c.from.ensures)
