-- A number in decimal, as ASCII bytes without leading zeros or at a fixed count of digits, and numbers on a line. Assumes nothing.
use Rattle.std.specs.Prelude.{cond, List, [], ◌∷◌, ◌++◌, ◌≡◌, ℕ, zero, suc, ◌+◌, ◌/◌, ◌%◌, ltb}
use Rattle.splice.specs.Splice.{splice}

-- the digits of x, of which there are at most n: a number below ten is one digit, and any other is a tenth of it and its last digit
unfoldable pub digits : ℕ → ℕ → List ℕ
digits zero x = []
digits (suc n) x = cond (ltb x 10) ((x + 48) ∷ []) (digits n (x / 10) ++ ((x % 10 + 48) ∷ []))

-- x has at most x + 1 digits
unfoldable pub decimal : ℕ → List ℕ
decimal x = digits (suc x) x

-- each number with a blank in front
unfoldable pub spaced : List ℕ → List ℕ
spaced [] = []
spaced (x ∷ xs) = 32 ∷ (decimal x ++ spaced xs)

-- numbers with one blank between them
unfoldable pub written : List ℕ → List ℕ
written [] = []
written (x ∷ xs) = decimal x ++ spaced xs

-- the last n digits of x, with zeros in front where x has fewer
unfoldable pub padded : ℕ → ℕ → List ℕ
padded zero x = []
padded (suc n) x = padded n (x / 10) ++ ((x % 10 + 48) ∷ [])

-- the last n digits of x stand in l from `at` on, which makes l to m, and r is the place after them
pub record PutPadded (l : List ℕ) (at n x : ℕ) (m : List ℕ) (r : ℕ) : Type 0 where
  pub place_is : r ≡ at + n
  pub list_is : m ≡ splice l at (padded n x)
