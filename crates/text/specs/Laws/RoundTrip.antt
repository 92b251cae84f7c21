-- A line that writes numbers in decimal, with one blank between them, is read back as those numbers, by how many they are. Assumes nothing.
use Rattle.std.specs.Prelude.{true, List, [], ◌∷◌, ◌++◌, ◌≡◌, refl, ℕ, suc, ◌*◌, ◌^◌, ◌≤◌, ◌<◌, length}
use Rattle.std.specs.Prelude.{Option}
use Rattle.text.specs.declared.line.Said.TheVariants.{Case, Unreadable}
use Rattle.std.proofs.Common.{ap, ◌∙◌, lt_trans, arith, lit<, length-append}
use Rattle.decimals.specs.Decimal.{decimal, spaced, written}
use Rattle.decimals.proofs.Laws.Decimal.{count_positive, count_below}
use Rattle.text.specs.Line.{case_of, before, field, fields, longest_line, read_line}
use Rattle.fields.specs.Fields.{width, older_width, from_older}
use Rattle.text.specs.Number.{is_digit, is_numeral, every, Below32}
use Rattle.text.specs.Laws.Case.{of_width, of_older, of_other}
use Rattle.text.specs.Laws.Number.{every_append, every_weaker, decimal_digits, read_decimal}
use Rattle.text.specs.Laws.Words.{one_field, blank_first, is_plain, digit_ink, digit_plain, plain_case}
use Rattle.text.specs.Words.{is_blank, is_ink, run, is_empty, drop_blanks}

ink_stops : (xs : List ℕ) → run is_ink (spaced xs) ≡ 0
unfolding run spaced is_ink is_blank
ink_stops [] = refl
ink_stops (x ∷ xs) = refl

number_first : (x : ℕ) (xs : List ℕ) (n : ℕ) → x < 2 ^ 32 → fields (suc n) (decimal x ++ spaced xs) ≡ before x (fields n (spaced xs))
unfolding field
number_first x xs n h =
    one_field (decimal x) (spaced xs) (count_positive x) (every_weaker is_digit is_ink digit_ink _ (decimal_digits x)) (ink_stops xs) n
    ∙ ap (λ (r : Option ℕ). field r (fields n (spaced xs))) (read_decimal x h)

spaced_fields : (xs : List ℕ) → Below32 xs → fields (length xs) (spaced xs) ≡ Case xs
unfolding spaced Below32 before fields drop_blanks run is_empty is_blank
spaced_fields [] h = refl
spaced_fields (x ∷ xs) h =
    blank_first (suc (length xs)) 32 (decimal x ++ spaced xs) refl
    ∙ number_first x xs (length xs) (h 0)
    ∙ ap (before x) (spaced_fields xs (λ i. h (suc i)))

-- ---- the line is short, and of digits and blanks alone

decimal_plain : (x : ℕ) → every is_plain (decimal x) ≡ true
decimal_plain x = every_weaker is_digit is_plain digit_plain (decimal x) (decimal_digits x)

spaced_plain : (xs : List ℕ) → every is_plain (spaced xs) ≡ true
unfolding spaced every is_plain is_numeral is_digit is_blank
spaced_plain [] = refl
spaced_plain (x ∷ xs) = every_append is_plain (decimal x) (spaced xs) (decimal_plain x) (spaced_plain xs)

short : (x : ℕ) → x < 2 ^ 32 → length (decimal x) ≤ 10
short x h = count_below 9 x (lt_trans h (lit< tt))

spaced_length : (xs : List ℕ) → Below32 xs → length (spaced xs) ≤ length xs * 11
unfolding spaced Below32
spaced_length [] h = omega arith
spaced_length (x ∷ xs) h =
    omega (arith, length-append (decimal x) (spaced xs), short x (h 0), spaced_length xs (λ i. h (suc i)))

read_back : (x : ℕ) (xs : List ℕ) → Below32 (x ∷ xs) → suc (length xs) * 11 ≤ longest_line
    → read_line (decimal x ++ spaced xs) ≡ case_of (x ∷ xs)
unfolding Below32 before
read_back x xs h k =
    let size = length-append (decimal x) (spaced xs) in
    let some : 0 < length (decimal x ++ spaced xs) = omega (arith, size, count_positive x) in
    let fits : length (decimal x ++ spaced xs) ≤ longest_line = omega (arith, size, short x (h 0), spaced_length xs (λ i. h (suc i))) in
    let plain = every_append is_plain (decimal x) (spaced xs) (decimal_plain x) (spaced_plain xs) in
    plain_case (decimal x ++ spaced xs) some plain (length xs) (x ∷ xs)
    (number_first x xs (length xs) (h 0) ∙ ap (before x) (spaced_fields xs (λ i. h (suc i))))
    fits

-- ---- the theorems

-- as many numbers as a line has room for, at eleven bytes each
pub round_trip : (xs : List ℕ) → 0 < length xs → length xs * 11 ≤ longest_line → Below32 xs → read_line (written xs) ≡ case_of xs
unfolding written
round_trip [] m k h = absurd (omega arith)
round_trip (x ∷ xs) m k h = read_back x xs h k

-- a case
pub round_trip_case : (xs : List ℕ) → length xs ≡ width → Below32 xs → read_line (written xs) ≡ Case xs
round_trip_case xs e h = round_trip xs (omega arith) (omega arith) h ∙ of_width xs e

-- one of the older width
pub round_trip_older : (xs : List ℕ) → length xs ≡ older_width → Below32 xs → read_line (written xs) ≡ Case (from_older xs)
round_trip_older xs e h = round_trip xs (omega arith) (omega arith) h ∙ of_older xs e

-- any other count, as 27 to 29
pub round_trip_other : (xs : List ℕ) → 0 < length xs → length xs * 11 ≤ longest_line → Below32 xs → (length xs ≡ width → ⊥)
    → (length xs ≡ older_width → ⊥) → read_line (written xs) ≡ Unreadable
round_trip_other xs m k h not_width not_older = round_trip xs m k h ∙ of_other xs not_width not_older
