-- The label of the code as the definition's, and room for a row. Assumes nothing.
use Rattle.std.specs.Prelude.{ℕ, ◌≤◌, length}
use Rattle.row_text.specs.Row.{Label}
use Rattle.row_text.specs.declared.row.Label.{Label as CodeLabel}

abbrev pub label_text : CodeLabel → Label
label_text l = record { symbol = l.symbol.now; unit = l.unit.now; words = l.words.now; decimals = l.decimals }

-- a label for which a row has room
pub record Short (l : Label) : Type 0 where
  pub symbol : length l.symbol ≤ 11
  pub unit : length l.unit ≤ 10
  pub words : length l.words ≤ 80
  pub decimals : l.decimals ≤ 16

-- more bytes than a row has: 13 and 11 to its symbol's end, 83 of its value, 2, and 10, 10 and 80 of its meaning
abbrev pub row_room : ℕ
row_room = 220
