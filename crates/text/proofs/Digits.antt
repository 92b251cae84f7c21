-- What `read_digits` gives, said of the digits that are left: how the loop of `text::number::read_digits` goes on by one digit, and where
-- it stops; and the two's complement that `wrapping_neg` gives.
-- Assumes nothing.
use Rattle.std.proofs.Common.{◌%◌, ◌^◌, Bool, true, false, cond, ◌&&◌, List, [], ◌∷◌, ◌≡◌, refl, ℕ, ◌+◌, ◌-◌, ◌*◌, ◌≤◌, ◌<◌, le_refl, sym}
use Rattle.std.specs.Prelude.{Option, Some, None}
use Rattle.std.proofs.Common.{le_trans, add-one, arith, le-leb, leb, length, get_or, drop, drop_of_length-le, drop-cons}
use Rattle.std.proofs.Math.Bool.{and-false}
use Rattle.std.proofs.lemmas.Bool.{lt-leb}
use Rattle.text.specs.Number.{is_digit, every, value_from, value, read_digits}
use Rattle.std.specs.Char.{is_ascii_digit}
use Rattle.text.specs.Words.{is_empty}

-- what the digits s say that follow digits of the value x
unfoldable pub onward : ℕ → ℕ → List ℕ → Option ℕ
onward limit x s = cond (every is_digit s && leb (value_from x s) limit) (Some (value_from x s)) None

pub begin : (limit : ℕ) (w : List ℕ) → (length w ≡ 0 → ⊥) → read_digits limit w ≡ onward limit 0 w
unfolding onward read_digits value is_empty
begin limit [] h = absurd (h refl)
begin limit (b ∷ s) h = refl

pub empty : (limit : ℕ) (w : List ℕ) → length w ≡ 0 → None ≡ read_digits limit w
unfolding read_digits is_empty
empty limit [] e = refl
empty limit (b ∷ s) e = absurd (omega arith)

-- the byte at i, a digit or not
pub onward_byte : (limit x : ℕ) (w : List ℕ) (i : ℕ) (t : Bool) → i < length w → t ≡ is_ascii_digit (get_or w i 0)
    → onward limit x (drop i w) ≡ cond t (onward limit (x * 10 + (get_or w i 0 - 48)) (drop (i + 1) w)) None
unfolding onward every value_from is_digit
onward_byte limit x w i true h e = rw (add-one i, drop-cons w i 0 h, sym e)
onward_byte limit x w i false h e = rw (drop-cons w i 0 h, sym e)

-- the value only grows
grows : (x : ℕ) (s : List ℕ) → x ≤ value_from x s
unfolding value_from
grows x [] = le_refl x
grows x (b ∷ s) = le_trans (omega arith) (grows (x * 10 + (b - 48)) s)

pub onward_over : (limit x : ℕ) (s : List ℕ) → limit < x → onward limit x s ≡ None
unfolding onward
onward_over limit x s h = simp (lt-leb _ _ (le_trans h (grows x s)), and-false)

pub onward_end : (limit x : ℕ) (w : List ℕ) (i : ℕ) → length w ≤ i → x ≤ limit → onward limit x (drop i w) ≡ Some x
unfolding onward every value_from
onward_end limit x w i h k = rw (drop_of_length-le w h) (simp (le-leb _ _ k))

-- the two's complement of a number
pub opposite : (r x : ℕ) → (r + x) % 2 ^ 32 ≡ 0 → r < 2 ^ 32 → x < 2 ^ 32 → (4294967296 - x) % 4294967296 ≡ r
opposite r x e h k = omega arith
