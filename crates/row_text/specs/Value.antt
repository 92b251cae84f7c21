-- A whole number z of a small unit as a decimal fraction with d decimals, in a column (docs/SHEET.md, 'A row'). Assumes nothing.
use Rattle.std.specs.Prelude.{List, [], ◌∷◌, ◌++◌, ℕ, zero, suc, ◌/◌, ◌^◌, ℤ, pos, negsuc, replicate}
use Rattle.std.specs.Int.RustNames.{unsigned_abs}
use Rattle.decimals.specs.Decimal.{decimal, padded}
use Rattle.row_text.specs.Columns.{blank, to_left, to_right}

-- a minus where z is below 0
unfoldable pub sign : ℤ → List ℕ
sign (pos n) = []
sign (negsuc n) = 45 ∷ []

unfoldable pub whole : ℕ → ℤ → List ℕ
whole d z = sign z ++ decimal (unsigned_abs z / 10 ^ d)

-- the point and the d digits behind it, in a column of so many; without decimals blanks, that of the point too
unfoldable pub fraction : ℕ → ℕ → ℤ → List ℕ
fraction after zero z = replicate (suc after) blank
fraction after (suc d) z = 46 ∷ to_left after (padded (suc d) (unsigned_abs z))

unfoldable pub value : ℕ → ℕ → ℕ → ℤ → List ℕ
value before after d z = to_right before (whole d z) ++ fraction after d z
