-- Text in a column, filled with blanks to its width; longer text takes its length (docs/SHEET.md, 'A row'). Assumes nothing.
use Rattle.std.specs.Prelude.{List, ◌++◌, ℕ, ◌-◌, length, replicate}

abbrev pub blank : ℕ
blank = 32

-- at the left end of the column
unfoldable pub to_left : ℕ → List ℕ → List ℕ
to_left width text = text ++ replicate (width - length text) blank

-- at the right end
unfoldable pub to_right : ℕ → List ℕ → List ℕ
to_right width text = replicate (width - length text) blank ++ text
