-- Numbers in bytes, the highest byte first: a number of w bytes, fields of four bytes one after another, and tests on bytes. Each is
-- described as what is written and what is read. Assumes nothing.
use Rattle.std.specs.Prelude.{Bool, true, ◌&&◌, List, [], ◌∷◌, ◌++◌, ℕ, zero, suc, ◌+◌, ◌*◌, ◌/◌, ◌%◌, eqb, ltb, get_or}

-- A number of w bytes.

unfoldable pub number_bytes : ℕ → ℕ → List ℕ
number_bytes zero n = []
number_bytes (suc w) n = number_bytes w (n / 256) ++ (n % 256 ∷ [])

-- the number whose w bytes stand from `at` on
unfoldable pub number_at : List ℕ → ℕ → ℕ → ℕ
number_at b at zero = 0
number_at b at (suc w) = number_at b at w * 256 + get_or b (at + w) 0

-- A field is a number of four bytes.

abbrev pub word_bytes : ℕ → List ℕ
word_bytes n = number_bytes 4 n

abbrev pub word_at : List ℕ → ℕ → ℕ
word_at b at = number_at b at 4

-- Fields one after another.

unfoldable pub words_bytes : List ℕ → List ℕ
words_bytes [] = []
words_bytes (w ∷ ws) = word_bytes w ++ words_bytes ws

-- n fields from `at` on
unfoldable pub words_at : List ℕ → ℕ → ℕ → List ℕ
words_at b at zero = []
words_at b at (suc n) = word_at b at ∷ words_at b (at + 4) n

-- whether the bytes vs stand from `at` on
unfoldable pub stands : List ℕ → List ℕ → ℕ → Bool
stands [] b at = true
stands (v ∷ vs) b at = eqb (get_or b at 0) v && stands vs b (at + 1)

-- whether each number is below n: a list of bytes where n is 256, of fields where it is 2^32
unfoldable pub below : ℕ → List ℕ → Bool
below n [] = true
below n (x ∷ xs) = ltb x n && below n xs
