-- Worked examples of the rules for a number, for the words of a line and for a line. Assumes nothing.
use Rattle.std.specs.Prelude.{List, [], ◌∷◌, ◌++◌, ◌≡◌, refl, ℕ, zero, suc, ◌^◌, ◌<◌, get_or, replicate}
use Rattle.std.proofs.Common.{arith, lit<, lit≤}
use Rattle.fields.specs.Fields.{from_older}
use Rattle.std.specs.Prelude.{Some, None}
use Rattle.text.specs.declared.line.Said.TheVariants.{PassedOver, Case, Unreadable}
use Rattle.decimals.specs.Decimal.{digits, decimal, spaced, written}
use Rattle.text.specs.Line.{before, field, fields, filled, or_else, case_fields, says, text_length, read_line}
use Rattle.text.specs.Number.{is_digit, every, value_from, value, read_digits, negated, read_number, Below32}
use Rattle.text.specs.Laws.RoundTrip.{round_trip_case, round_trip_older, round_trip_other}
use Rattle.text.specs.Words.{is_blank, is_ink, run, is_empty, drop_blanks, word, drop_word}

ex_decimal : decimal 120 ≡ 49 ∷ 50 ∷ 48 ∷ []
unfolding decimal digits
ex_decimal = refl

-- "4294967295", "4294967296", "-1", "-2147483648", "-2147483649", "-0", "007", "+1", "-", "1x"
ex_numbers : (read_number (52 ∷ 50 ∷ 57 ∷ 52 ∷ 57 ∷ 54 ∷ 55 ∷ 50 ∷ 57 ∷ 53 ∷ []) ≡ Some 4294967295)
    × (read_number (52 ∷ 50 ∷ 57 ∷ 52 ∷ 57 ∷ 54 ∷ 55 ∷ 50 ∷ 57 ∷ 54 ∷ []) ≡ None)
    × (read_number (45 ∷ 49 ∷ []) ≡ Some 4294967295)
    × (read_number (45 ∷ 50 ∷ 49 ∷ 52 ∷ 55 ∷ 52 ∷ 56 ∷ 51 ∷ 54 ∷ 52 ∷ 56 ∷ []) ≡ Some 2147483648)
    × (read_number (45 ∷ 50 ∷ 49 ∷ 52 ∷ 55 ∷ 52 ∷ 56 ∷ 51 ∷ 54 ∷ 52 ∷ 57 ∷ []) ≡ None)
    × (read_number (45 ∷ 48 ∷ []) ≡ Some 0)
    × (read_number (48 ∷ 48 ∷ 55 ∷ []) ≡ Some 7)
    × (read_number (43 ∷ 49 ∷ []) ≡ None)
    × (read_number (45 ∷ []) ≡ None)
    × (read_number (49 ∷ 120 ∷ []) ≡ None)
unfolding read_number read_digits negated value value_from every is_digit is_empty
ex_numbers = (refl, refl, refl, refl, refl, refl, refl, refl, refl, refl)

-- " 1\t \t2 ", "1", "1 2 3", "1 2 x", ""
ex_words : (fields 2 (32 ∷ 49 ∷ 9 ∷ 32 ∷ 9 ∷ 50 ∷ 32 ∷ []) ≡ Case (1 ∷ 2 ∷ []))
    × (fields 2 (49 ∷ []) ≡ Unreadable)
    × (fields 2 (49 ∷ 32 ∷ 50 ∷ 32 ∷ 51 ∷ []) ≡ Unreadable)
    × (fields 2 (49 ∷ 32 ∷ 50 ∷ 32 ∷ 120 ∷ []) ≡ Unreadable)
    × (fields 0 [] ≡ Case [])
unfolding fields field before word drop_word drop_blanks run is_blank is_ink read_number read_digits value value_from every is_digit
    is_empty
ex_words = (refl, refl, refl, refl, refl)

-- n numbers from k on
counted : ℕ → ℕ → List ℕ
counted zero k = []
counted (suc n) k = k ∷ counted n (suc k)

-- "1 2 3 .." of n numbers, and other bytes
line : ℕ → List ℕ → List ℕ
line n more = written (counted n 1) ++ more

-- 25 to 31 numbers; 26 and 30 also with blanks and a carriage return, with two of these, and with a word at the end
ex_counts : (read_line (line 25 []) ≡ Unreadable)
    × (read_line (line 26 []) ≡ Case (counted 26 1 ++ (0 ∷ 0 ∷ 0 ∷ 0 ∷ [])))
    × (read_line (line 26 (32 ∷ 9 ∷ 13 ∷ [])) ≡ Case (counted 26 1 ++ (0 ∷ 0 ∷ 0 ∷ 0 ∷ [])))
    × (read_line (line 26 (13 ∷ 13 ∷ [])) ≡ Unreadable)
    × (read_line (line 26 (32 ∷ 120 ∷ [])) ≡ Unreadable)
    × (read_line (line 27 []) ≡ Unreadable)
    × (read_line (line 28 []) ≡ Unreadable)
    × (read_line (line 29 []) ≡ Unreadable)
    × (read_line (line 30 []) ≡ Case (counted 30 1))
    × (read_line (line 30 (32 ∷ 9 ∷ 13 ∷ [])) ≡ Case (counted 30 1))
    × (read_line (line 30 (13 ∷ 13 ∷ [])) ≡ Unreadable)
    × (read_line (line 30 (32 ∷ 120 ∷ [])) ≡ Unreadable)
    × (read_line (line 31 []) ≡ Unreadable)
unfolding line counted written spaced decimal digits read_line says text_length case_fields or_else filled fields field before word
    drop_word drop_blanks run is_blank is_ink read_number read_digits value value_from every is_digit is_empty
ex_counts = (refl, refl, refl, refl, refl, refl, refl, refl, refl, refl, refl, refl, refl)

-- "", " \t\r", "#1 2 3 ..", " #1 2 3 .."
ex_passed_over : (read_line [] ≡ PassedOver)
    × (read_line (32 ∷ 9 ∷ 13 ∷ []) ≡ PassedOver)
    × (read_line (35 ∷ line 26 []) ≡ PassedOver)
    × (read_line (32 ∷ 35 ∷ line 26 []) ≡ Unreadable)
unfolding line counted written spaced decimal digits read_line says text_length case_fields or_else filled fields field before word
    drop_word drop_blanks run is_blank is_ink read_number read_digits value value_from every is_digit is_empty
ex_passed_over = (refl, refl, refl, refl)

-- The laws of lines that are written in decimal, of 30, 26 and 27 numbers.

sevens : (n i : ℕ) → get_or (replicate n 7) i 0 < 2 ^ 32
sevens zero i = lit< tt
sevens (suc n) zero = lit< tt
sevens (suc n) (suc i) = sevens n i

ex_written : (read_line (written (replicate 30 7)) ≡ Case (replicate 30 7))
    × (read_line (written (replicate 26 7)) ≡ Case (from_older (replicate 26 7)))
    × (read_line (written (replicate 27 7)) ≡ Unreadable)
unfolding Below32
ex_written = (
  round_trip_case (replicate 30 7) refl (sevens 30),
  round_trip_older (replicate 26 7) refl (sevens 26),
  round_trip_other (replicate 27 7) (lit< tt) (lit≤ tt) (sevens 27) (λ e. omega (arith, e)) (λ e. omega (arith, e)),
)
