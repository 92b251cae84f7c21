-- The number that a word says: digits, or a minus sign and digits. Assumes nothing.
use Rattle.std.specs.Prelude.{Bool, true, cond, not, ◌&&◌, ◌||◌, List, [], ◌∷◌, ℕ, ◌+◌, ◌-◌, ◌*◌, ◌%◌, ◌^◌, ◌<◌, leb, eqb, drop, get_or}
use Rattle.std.specs.Prelude.{Option, Some, None}
use Rattle.text.specs.Bytes.{minus_sign, digit_zero, digit_nine}
use Rattle.text.specs.Words.{is_empty}

unfoldable pub is_digit : ℕ → Bool
is_digit b = leb digit_zero b && leb b digit_nine

-- digits and the minus sign
unfoldable pub is_numeral : ℕ → Bool
is_numeral b = is_digit b || eqb b minus_sign

-- all bytes pass a test
unfoldable pub every : (ℕ → Bool) → List ℕ → Bool
every p [] = true
every p (b ∷ s) = p b && every p s

-- the value of digits that follow digits of the value x
unfoldable pub value_from : ℕ → List ℕ → ℕ
value_from x [] = x
value_from x (b ∷ s) = value_from (x * 10 + (b - digit_zero)) s

unfoldable pub value : List ℕ → ℕ
value s = value_from 0 s

-- one digit or more, with a value of at most the limit
unfoldable pub read_digits : ℕ → List ℕ → Option ℕ
read_digits limit w = cond (not (is_empty w) && (every is_digit w && leb (value w) limit)) (Some (value w)) None

-- the two's complement at 32 bits
unfoldable pub negated : Option ℕ → Option ℕ
negated (Some x) = Some ((4294967296 - x) % 4294967296)
negated None = None

-- digits to 4294967295, or a minus sign and digits to 2147483648
unfoldable pub read_number : List ℕ → Option ℕ
read_number w = cond (eqb (get_or w 0 0) minus_sign) (negated (read_digits 2147483648 (drop 1 w))) (read_digits 4294967295 w)

-- every number is below 2^32
unfoldable pub Below32 : List ℕ → Type 0
Below32 xs = (i : ℕ) → get_or xs i 0 < 2 ^ 32
