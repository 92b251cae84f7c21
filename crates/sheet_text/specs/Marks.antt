-- The mark of a row (docs/SHEET.md, 'A row'). Assumes nothing.
use Rattle.std.specs.Prelude.{Bool, true, false, List, ℕ, codes}

unfoldable pub mark : Bool → List ℕ
mark true = codes "> "
mark false = codes "  "
