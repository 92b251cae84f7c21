-- What the program `rate` prints for a line of its input. Assumes nothing.
use Rattle.std.specs.Prelude.{List, [], ◌∷◌, ◌++◌, ℕ}
use Rattle.rating.specs.Rate.{Answer, rate_of}
use Rattle.decimals.specs.Decimal.{decimal, written}
use Rattle.text.specs.declared.line.Said.{Said}
use Rattle.text.specs.declared.line.Said.TheVariants.{PassedOver, Case, Unreadable}
use Rattle.text.specs.Line.{read_line}

-- room for what is printed for any line, and in it for a sheet: 13 numbers of at most 20 digits with a blank before each
abbrev pub answer_room : ℕ
answer_room = 512

abbrev pub sheet_room : ℕ
sheet_room = 273

-- the number of the answer, the rating and the sheet in decimal, with one blank between them, and a line feed
unfoldable pub text_of : Answer → List ℕ
text_of a = written (a.number ∷ a.rating ∷ a.sheet) ++ (10 ∷ [])

-- "line k", and a text about it
unfoldable pub about_line : ℕ → List ℕ → List ℕ
about_line k text = (108 ∷ 105 ∷ 110 ∷ 101 ∷ 32 ∷ []) ++ decimal k ++ text

-- "line k: unreadable" and a line feed
unfoldable pub unreadable_text : ℕ → List ℕ
unreadable_text k = about_line k (58 ∷ 32 ∷ 117 ∷ 110 ∷ 114 ∷ 101 ∷ 97 ∷ 100 ∷ 97 ∷ 98 ∷ 108 ∷ 101 ∷ 10 ∷ [])

-- what is printed for line k, by what it says
unfoldable pub printed_for : ℕ → Said → List ℕ
printed_for k PassedOver = []
printed_for k (Case xs) = text_of (rate_of xs)
printed_for k Unreadable = unreadable_text k

-- what is printed for line k, by its bytes without the line feed
unfoldable pub printed : ℕ → List ℕ → List ℕ
printed k line = printed_for k (read_line line)
