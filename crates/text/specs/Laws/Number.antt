-- Laws of reading digits: which bytes are digits, what `every` says of each byte, and that a number in decimal is read back as itself.
-- Assumes nothing.
use Rattle.std.specs.Prelude.{Bool, true, false, List, [], ◌∷◌, ◌++◌, ◌≡◌, refl, ℕ, zero, suc, ◌+◌, ◌-◌, ◌*◌, ◌/◌, ◌%◌, ◌^◌, ◌≤◌, ◌<◌}
use Rattle.std.specs.Prelude.{Some}
use Rattle.std.specs.Prelude.{length, get_or}
use Rattle.std.proofs.lemmas.Bool.{false≢true, lt-leb}
use Rattle.std.proofs.Math.Bool.{and-false}
use Rattle.std.proofs.Common.{sym, ap, ◌∙◌, le_of_suc-le-suc, arith, le-leb, ne_eqb}
use Rattle.bools.proofs.Laws.Tests.{both}
use Rattle.decimals.specs.Decimal.{decimal}
use Rattle.decimals.proofs.Laws.Decimal.{decimal_small, decimal_large, decimal_ind, count_positive}
use Rattle.text.specs.Number.{is_digit, every, value_from, value, read_digits, read_number}
use Rattle.text.specs.Words.{is_empty}

pub is_digit_within : (b : ℕ) → 48 ≤ b → b ≤ 57 → is_digit b ≡ true
unfolding is_digit
is_digit_within b low high = simp (le-leb 48 b low, le-leb b 57 high)

pub is_below_digits : (b : ℕ) → b < 48 → is_digit b ≡ false
unfolding is_digit
is_below_digits b low = simp (lt-leb 48 b low)

pub is_above_digits : (b : ℕ) → 57 < b → is_digit b ≡ false
unfolding is_digit
is_above_digits b high = simp (lt-leb b 57 high, and-false)

pub every_append : (p : ℕ → Bool) (s t : List ℕ) → every p s ≡ true → every p t ≡ true → every p (s ++ t) ≡ true
unfolding every
every_append p [] t h k = k
every_append p (b ∷ s) t h k = rw (both (p b) (every p s) h).0 (every_append p s t (both (p b) (every p s) h).1 k)

pub every_at : (p : ℕ → Bool) (s : List ℕ) → every p s ≡ true → (i : ℕ) → i < length s → p (get_or s i 0) ≡ true
unfolding every
every_at p [] h i k = absurd (omega arith)
every_at p (b ∷ s) h zero k = (both (p b) (every p s) h).0
every_at p (b ∷ s) h (suc i) k = every_at p s (both (p b) (every p s) h).1 i (le_of_suc-le-suc k)

pub every_weaker : (p q : ℕ → Bool) → ((b : ℕ) → p b ≡ true → q b ≡ true) → (s : List ℕ) → every p s ≡ true → every q s ≡ true
unfolding every
every_weaker p q f [] h = refl
every_weaker p q f (b ∷ s) h = let k = both (p b) (every p s) h in rw (f b k.0) (every_weaker p q f s k.1)

-- a byte that passes a test is no byte that fails it
pub differ : (p : ℕ → Bool) (b k : ℕ) → p b ≡ true → p k ≡ false → b ≡ k → ⊥
differ p b k h f e = false≢true (sym f ∙ ap p (sym e) ∙ h)

one_digit : (d : ℕ) → d < 10 → every is_digit ((d + 48) ∷ []) ≡ true
unfolding every
one_digit d h = rw (is_digit_within (d + 48) (omega arith) (omega arith))

pub decimal_digits : (x : ℕ) → every is_digit (decimal x) ≡ true
decimal_digits =
    decimal_ind (λ x. every is_digit (decimal x) ≡ true)
    (λ x h. rw (decimal_small x h) (one_digit x h))
    (λ x h r. rw (decimal_large x h) (every_append is_digit _ _ r (one_digit (x % 10) (omega arith))))

pub value_snoc : (x : ℕ) (s : List ℕ) (b : ℕ) → value_from x (s ++ (b ∷ [])) ≡ value_from x s * 10 + (b - 48)
unfolding value_from
value_snoc x [] b = refl
value_snoc x (d ∷ s) b = value_snoc (x * 10 + (d - 48)) s b

pub decimal_value : (x : ℕ) → value (decimal x) ≡ x
unfolding value value_from
decimal_value =
    decimal_ind (λ x. value (decimal x) ≡ x)
    (λ x h. rw (decimal_small x h) (omega arith))
    (λ x h r. rw (decimal_large x h) (value_snoc 0 (decimal (x / 10)) (x % 10 + 48) ∙ omega arith))

pub not_empty : (s : List ℕ) → 0 < length s → is_empty s ≡ false
unfolding is_empty
not_empty [] h = absurd (omega arith)
not_empty (b ∷ s) h = refl

first_digit : (x : ℕ) → is_digit (get_or (decimal x) 0 0) ≡ true
first_digit x = every_at is_digit (decimal x) (decimal_digits x) 0 (count_positive x)

-- the word `decimal x` says x
pub read_decimal : (x : ℕ) → x < 2 ^ 32 → read_number (decimal x) ≡ Some x
unfolding read_number read_digits is_digit
read_decimal x h =
    let no_minus = ne_eqb (get_or (decimal x) 0 0) 45 (differ is_digit _ 45 (first_digit x) refl) in
    let fits : x ≤ 4294967295 = omega arith in
    simp (no_minus, not_empty (decimal x) (count_positive x), decimal_digits x, decimal_value x, le-leb x 4294967295 fits)

-- no two numbers are written alike
pub decimal_injective : (x y : ℕ) → decimal x ≡ decimal y → x ≡ y
decimal_injective x y e = sym (decimal_value x) ∙ ap value e ∙ decimal_value y
