-- A row of a work sheet (docs/SHEET.md, 'A row'). Assumes nothing.
use Rattle.std.specs.Prelude.{List, [], ◌∷◌, ◌++◌, ℕ, ◌-◌, ℤ, codes, length}
use Rattle.row_text.specs.Columns.{to_left}
use Rattle.row_text.specs.Value.{value}

-- what is said of a value, and how many decimals it has in its unit
pub record Label : Type 0 where
  pub symbol : List ℕ
  pub unit : List ℕ
  pub words : List ℕ
  pub decimals : ℕ

-- the unit, in a column of its own where words follow
unfoldable pub meaning : List ℕ → List ℕ → List ℕ
meaning unit [] = unit
meaning unit (w ∷ ws) = to_left 10 unit ++ w ∷ ws

-- z behind its mark and symbol, with so many columns behind the point, before its unit and words
unfoldable pub row : List ℕ → ℕ → Label → ℤ → List ℕ
row mark after label z =
    mark
    ++ to_left (13 - length mark) label.symbol
    ++ value 10 after label.decimals z
    ++ codes "  "
    ++ meaning label.unit label.words
    ++ codes "\n"
