-- What a line of an input prints, and the heading of the cases after it (docs/SHEET.md, 'The heading'). Assumes nothing.
use Rattle.std.specs.Prelude.{Bool, true, false, cond, ◌&&◌, List, [], ◌++◌, ◌≡◌, ℕ, IsUtf8, codes, drop, eqb, get_or, leb, length, take}
use Rattle.decimals.specs.Decimal.{decimal}
use Rattle.text.specs.Bytes.{number_sign}
use Rattle.text.specs.Line.{longest_line, read_line, text_length}
use Rattle.text.specs.Words.{drop_blanks, is_empty}
use Rattle.text.specs.declared.line.Said.{Said}
use Rattle.text.specs.declared.line.Said.TheVariants.{PassedOver, Case, Unreadable}
use Rattle.rating.specs.Rate.{rate_of}
use Rattle.rate_text.specs.Answers.{unreadable_text}
use Rattle.sheet_text.specs.Sheet.{sheet_text}

unfoldable pub is_comment : List ℕ → Bool
is_comment line = leb (length line) longest_line && eqb (get_or line 0 0) number_sign

-- the text behind the sign, without the blanks in front and a carriage return at the end
unfoldable pub comment : List ℕ → List ℕ
comment line = drop_blanks (drop 1 (take (text_length line) line))

-- a line that is no comment keeps the heading; one that is gives it its text, or none where that is not UTF-8
pub record Heads (line old new : List ℕ) : Type 0 where
  pub kept : is_comment line ≡ false → new ≡ old
  pub given : is_comment line ≡ true → IsUtf8 (comment line) → new ≡ comment line
  pub none : is_comment line ≡ true → ¬ (IsUtf8 (comment line)) → new ≡ []

-- the heading of the case on line k
unfoldable pub heading_text : ℕ → List ℕ → List ℕ
heading_text k heading =
    codes "CASE on line " ++ decimal k ++ cond (is_empty heading) [] (codes ": " ++ heading) ++ codes "\n"

-- what is printed for line k, by what it says
unfoldable pub printed_for : ℕ → List ℕ → Said → List ℕ
printed_for k heading PassedOver = []
printed_for k heading (Case x) = heading_text k heading ++ sheet_text x (rate_of x)
printed_for k heading Unreadable = unreadable_text k

-- by its bytes without the line feed
unfoldable pub printed : ℕ → List ℕ → List ℕ → List ℕ
printed k heading line = printed_for k heading (read_line line)
