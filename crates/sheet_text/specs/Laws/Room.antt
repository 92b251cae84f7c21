-- Room for the parts of a sheet. Assumes nothing.
use Rattle.std.specs.Prelude.{ℕ, ◌+◌, ◌*◌}
use Rattle.fields.specs.Fields.{width}
use Rattle.row_text.specs.Laws.Row.{row_room}

-- the line that begins it, six rows of losses and three of temperatures
abbrev pub implied_room : ℕ
implied_room = 14 + 9 * row_room

-- the line that begins it, thirteen rows, that of the rating, and of dry soil
abbrev pub rated_room : ℕ
rated_room = 6 + 15 * row_room + implied_room

-- the line with number and word, and the rule
abbrev pub refusal_room : ℕ
refusal_room = 256

-- a row for each field, the numbers or the refusal, and a line feed
abbrev pub sheet_room : ℕ
sheet_room = 1 + width * row_room + rated_room
