-- Digits that stand in a line from one place to another: how a loop that reads them goes on by one, and that they are a word, and what
-- it says, where no word goes on after them; what the code hands on of a word. Assumes nothing.
use Rattle.std.proofs.Common.{le-leb, ne_eqb, ltb-true, leb-true}
use Rattle.std.specs.Prelude.{Option, Some}
use Rattle.std.specs.Prelude.{Bool, true, List, [], ◌∷◌, ◌≡◌, refl, ℕ, ◌+◌, ◌-◌, ◌*◌, ◌^◌, ◌≤◌, ◌<◌, leb, ltb, length, get_or, drop}
use Rattle.std.proofs.Common.{sym, ap, ◌∙◌, le_refl, lt_of_lt_of_le, pow-suc, add-one, arith, lit<}
use Rattle.std.proofs.Math.Nat.{pow-le-pow_right}
use Rattle.bools.proofs.Laws.Tests.{both}
use Rattle.text.specs.Gather.{piece}
use Rattle.text.specs.Leading.{digits_end, DigitsIn, LeadingDigits, is_number}
use Rattle.text.specs.Number.{is_digit, every, value_from, value, read_digits, read_number}
use Rattle.text.specs.Laws.Number.{is_digit_within, every_append, every_at, every_weaker, differ, value_snoc, not_empty}
use Rattle.text.specs.Laws.Pieces.{piece_none, piece_more, piece_length, piece_then}
use Rattle.text.specs.Laws.Words.{digit_ink, run_past}
use Rattle.text.specs.Words.{is_ink, run, run_end}

-- the word at `from` ends at `to`, and says r
pub record WordAt (s : List ℕ) (from to : ℕ) (r : Option ℕ) : Type 0 where
  pub end_is : to ≡ run_end is_ink s from
  pub said_is : r ≡ read_number (piece from to s)

pub digits_none : (s : List ℕ) (from : ℕ) → from ≤ length s → DigitsIn s from from 0
unfolding every value value_from
digits_none s from h =
    record {
      forward = le_refl from;
      within = h;
      digits = ap (every is_digit) (piece_none s from);
      amount = ap value (piece_none s from);
    }

pub digits_more : (s : List ℕ) (from i x : ℕ) → DigitsIn s from i x → i < length s → 48 ≤ get_or s i 0 → get_or s i 0 ≤ 57
    → DigitsIn s from (i + 1) (x * 10 + (get_or s i 0 - 48))
unfolding every value
digits_more s from i x d k low high =
    let b = get_or s i 0 in
    let more = piece_more s from i d.forward k in
    record {
      forward = omega arith;
      within = omega arith;
      digits = ap (every is_digit) more ∙ every_append is_digit (piece from i s) (b ∷ []) d.digits (rw (is_digit_within b low high));
      amount = ap value more ∙ value_snoc 0 (piece from i s) b ∙ ap (λ (v : ℕ). v * 10 + (b - 48)) d.amount;
    }

-- digits that are a number of at most `limit`
pub record NumberIn (s : List ℕ) (from to x limit : ℕ) : Type 0 where
  pub digits : DigitsIn s from to x
  pub some : from < to
  pub near : to ≤ from + 10
  pub fits : x ≤ limit

-- what the test of leading digits says
pub number_in : {s : List ℕ} {from to x : ℕ} {tested : Bool} (limit : ℕ) → LeadingDigits s from to x
    → tested ≡ is_number from to x limit → tested ≡ true → NumberIn s from to x limit
unfolding is_number digits_end
number_in {from = from} {to} {x} limit leading e h =
    let tests = both (ltb from to) (leb x limit) (sym e ∙ h) in
    record {
      digits = leading.digits;
      some = ltb-true from to tests.0;
      near = let end = leading.end in omega arith;
      fits = leb-true x limit tests.1;
    }

-- after i digits a value is below 10^i
pub small_more : (i x b : ℕ) → x < 10 ^ i → b ≤ 57 → x * 10 + (b - 48) < 10 ^ (i + 1)
small_more i x b h k = omega (arith, ap (λ (n : ℕ). 10 ^ n) (add-one i) ∙ pow-suc 10 i)

pub small_most : (i x : ℕ) → x < 10 ^ i → i ≤ 10 → x < 10000000000
small_most i x h k = lt_of_lt_of_le h (pow-le-pow_right {n = 10} (lit< tt) k)

module _ (s : List ℕ) (from to x : ℕ) (d : DigitsIn s from to x) where
  size : length (piece from to s) ≡ to - from
  size = piece_length s from to d.within

  pub word_ends : run is_ink (drop to s) ≡ 0 → to ≡ run_end is_ink s from
  word_ends h =
      let ink : run is_ink (drop from s) ≡ to - from =
      ap (run is_ink) (piece_then s from to d.forward) ∙ run_past is_ink _ _ (every_weaker is_digit is_ink digit_ink _ d.digits) h ∙ size
      in
      omega arith

module _ {s : List ℕ} {from to x limit : ℕ} (number : NumberIn s from to x limit) where
  word : List ℕ
  word = piece from to s

  word_some : 0 < length word
  unfolding word
  word_some = omega (arith, size s from to x number.digits, number.some)

  pub digits_say : read_digits limit (piece from to s) ≡ Some x
  unfolding read_digits word
  digits_say = simp (not_empty word word_some, number.digits.digits, number.digits.amount, le-leb x limit number.fits)

pub word_says : {s : List ℕ} {from to x : ℕ} → NumberIn s from to x 4294967295 → read_number (piece from to s) ≡ Some x
unfolding read_number is_digit word
word_says {s} {from} {to} number =
    let first = every_at is_digit (piece from to s) number.digits.digits 0 (word_some number) in
    rw (ne_eqb _ 45 (differ is_digit _ 45 first refl)) (digits_say number)
