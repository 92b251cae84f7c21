-- The work sheet of a case and its answer (docs/SHEET.md). Assumes nothing.
use Rattle.std.specs.Prelude.{Bool, false, cond, List, [], ◌∷◌, ◌++◌, ℕ, ℤ, pos, codes, eqb, map}
use Rattle.fields.specs.Fields as Field
use Rattle.rating.specs.Rate.{Answer}
use Rattle.implied.specs.declared.values.Implied.{Implied}
use Rattle.implied.specs.Implied.{implied}
use Rattle.row_text.specs.Row.{row}
use Rattle.row_text.specs.Value.{value}
use Rattle.sheet_text.specs.Fields.{fields_text}
use Rattle.sheet_text.specs.NumberRows.{has, labelled, loss_rows, sheet_rows}
use Rattle.sheet_text.specs.Numbers.{digits, numbers_text}
use Rattle.sheet_text.specs.declared.has.Has.TheVariants.{Alternating, Armoured}
use Rattle.sheet_text.specs.Marks.{mark}
use Rattle.sheet_text.specs.Refusals.{refusal_text}

-- a temperature at the rating
unfoldable pub temperature_row : List ℕ → List ℕ → ℤ → List ℕ
temperature_row symbol words θ =
    row (mark false) digits (record { symbol = symbol; unit = codes "deg C"; words = words; decimals = 2 }) θ

-- words that end in a temperature that the case gives
unfoldable pub given : List ℕ → ℤ → List ℕ
given words θ = words ++ value 0 2 2 θ

-- of a part that only some arrangements have, beside the one that the case gives
unfoldable pub beside : Bool → List ℕ → List ℕ → ℤ → ℤ → List ℕ
beside there symbol words by_case θ = cond there (temperature_row symbol (given words by_case) θ) []

-- of sheath, armour and surface
unfoldable pub temperatures_text : List ℕ → Implied → List ℕ
temperatures_text x v =
    let a = Field.arrangement x in
    beside (has Alternating a) (codes "theta_s") (codes "sheath, given as ") (Field.sheath_temperature x) v.sheath_temperature
    ++ beside (has Armoured a) (codes "theta_A") (codes "armour, given as ") (Field.armour_temperature x) v.armour_temperature
    ++ temperature_row (codes "theta_e") (codes "surface") v.surface_temperature

-- by the rating and the sheet
unfoldable pub implied_text : List ℕ → ℕ → List ℕ → List ℕ
implied_text x rating sheet =
    let v = implied x rating sheet in
    codes "AT THE RATING\n"
    ++ numbers_text (Field.arrangement x) loss_rows
    (v.sheath_factor ∷ v.armour_factor ∷ v.conductor_loss ∷ v.sheath_loss ∷ v.armour_loss ∷ v.dielectric_loss ∷ [])
    ++ temperatures_text x v

-- where soil dries out
unfoldable pub dry_text : List ℕ → List ℕ
dry_text x =
    cond (eqb (Field.dry_ratio x) 0) []
    (codes "  In soil that dries out the smaller counts of this rating and the one with rho and theta_x 0.\n")

unfoldable pub rating_row : ℕ → List ℕ
rating_row rating = row [] digits (labelled "RATING" "A" "largest continuous current" 3) (pos rating)

unfoldable pub rated_text : List ℕ → Answer → List ℕ
rated_text x answer =
    codes "SHEET\n"
    ++ numbers_text (Field.arrangement x) sheet_rows (map pos answer.sheet)
    ++ rating_row answer.rating
    ++ dry_text x
    ++ implied_text x answer.rating answer.sheet

-- the fields, the numbers or the refusal, and an empty line
unfoldable pub sheet_text : List ℕ → Answer → List ℕ
sheet_text x answer =
    fields_text x answer.number
    ++ cond (eqb answer.number 0) (rated_text x answer) (refusal_text answer.number)
    ++ codes "\n"
