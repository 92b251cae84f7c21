-- What a line says: a case, nothing, or that it cannot be read. Assumes nothing.
use Rattle.std.specs.Prelude.{cond, ◌||◌, List, [], ◌∷◌, ℕ, zero, suc, ◌-◌, eqb, ltb, length, get_or, take}
use Rattle.fields.specs.Fields.{width, older_width, from_older}
use Rattle.std.specs.Prelude.{Option, Some, None}
use Rattle.text.specs.declared.line.Said.{Said}
use Rattle.text.specs.declared.line.Said.TheVariants.{PassedOver, Case, Unreadable}
use Rattle.text.specs.Bytes.{carriage_return, number_sign}
use Rattle.text.specs.Number.{read_number}
use Rattle.text.specs.Words.{is_empty, drop_blanks, word, drop_word}

-- a number in front of the numbers that the rest says
unfoldable pub before : ℕ → Said → Said
before x PassedOver = PassedOver
before x (Case xs) = Case (x ∷ xs)
before x Unreadable = Unreadable

unfoldable pub field : Option ℕ → Said → Said
field (Some x) rest = before x rest
field None rest = Unreadable

-- n words that are numbers, with blanks before, between and after them, and nothing else
unfoldable pub fields : ℕ → List ℕ → Said
fields zero s = cond (is_empty (drop_blanks s)) (Case []) Unreadable
fields (suc n) s = field (read_number (word (drop_blanks s))) (fields n (drop_word (drop_blanks s)))

-- a case of the older width as one of today's
unfoldable pub filled : Said → Said
filled PassedOver = PassedOver
filled (Case xs) = Case (from_older xs)
filled Unreadable = Unreadable

-- the first where it is a case, else the second
unfoldable pub or_else : Said → Said → Said
or_else PassedOver other = other
or_else (Case xs) other = Case xs
or_else Unreadable other = other

-- as many numbers as a case has, or as one of the older width has
unfoldable pub case_fields : List ℕ → Said
case_fields s = or_else (fields width s) (filled (fields older_width s))

-- what a line of these numbers says, by their count
unfoldable pub case_of : List ℕ → Said
case_of xs = cond (eqb (length xs) width) (Case xs) (cond (eqb (length xs) older_width) (Case (from_older xs)) Unreadable)

-- a line of blanks alone, or that begins with #, is passed over
unfoldable pub says : List ℕ → Said
says s = cond (is_empty (drop_blanks s) || eqb (get_or s 0 0) number_sign) PassedOver (case_fields s)

-- a line's length without one carriage return at the very end
unfoldable pub text_length : List ℕ → ℕ
text_length l = cond (eqb (get_or l (length l - 1) 0) carriage_return) (length l - 1) (length l)

-- the most bytes of a line that is read, without its line feed
abbrev pub longest_line : ℕ
longest_line = 1023

unfoldable pub read_line : List ℕ → Said
read_line l = cond (ltb longest_line (length l)) Unreadable (says (take (text_length l) l))
