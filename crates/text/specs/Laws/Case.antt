-- How many numbers a line says: a line of n numbers is none of another count, the count decides whether they are a case, and a case has
-- the width of today. Assumes nothing.
use Rattle.std.specs.Prelude.{Bool, true, false, cond, ◌||◌, List, [], ◌∷◌, ◌≡◌, refl, ℕ, zero, suc, ◌+◌, ◌-◌, ◌<◌, eqb, ltb}
use Rattle.std.specs.Prelude.{Option, Some, None, length, get_or, take, drop, replicate, set}
use Rattle.std.proofs.Math.Seq.{drop-set-lt}
use Rattle.text.specs.declared.line.Said.{Said}
use Rattle.text.specs.declared.line.Said.TheVariants.{PassedOver, Case, Unreadable}
use Rattle.std.proofs.Common.{ap, ◌∙◌, subst, sym, eqb-true, eq-eqb, ne_eqb, arith, drop-drop, length-append}
use Rattle.std.proofs.lemmas.Bool.{false≢true}
use Rattle.bools.proofs.Laws.Tests.{either}
use Rattle.fields.specs.Fields.{width, older_width, from_older}
use Rattle.text.specs.Bytes.{number_sign}
use Rattle.text.specs.Line.{before, field, fields, filled, or_else, case_fields, case_of, says, text_length, longest_line, read_line}
use Rattle.text.specs.Number.{read_digits, read_number}
use Rattle.text.specs.Words.{run, is_empty, drop_blanks, word, drop_word}

pub of_width : (xs : List ℕ) → length xs ≡ width → case_of xs ≡ Case xs
unfolding case_of
of_width xs e = rw e

pub of_older : (xs : List ℕ) → length xs ≡ older_width → case_of xs ≡ Case (from_older xs)
unfolding case_of
of_older xs e = rw e

pub of_other : (xs : List ℕ) → (length xs ≡ width → ⊥) → (length xs ≡ older_width → ⊥) → case_of xs ≡ Unreadable
unfolding case_of
of_other xs h k = rw (ne_eqb (length xs) width h, ne_eqb (length xs) older_width k)

-- ---- a line of n numbers is none of another count

is_case : Said → Bool
is_case PassedOver = false
is_case (Case xs) = true
is_case Unreadable = false

rest_is_case : (r : Option ℕ) (rest : Said) → is_case (field r rest) ≡ true → is_case rest ≡ true
unfolding field before is_case
rest_is_case (Some x) PassedOver h = h
rest_is_case (Some x) (Case xs) h = refl
rest_is_case (Some x) Unreadable h = h
rest_is_case None rest h = absurd (false≢true h)

rest_unreadable : (r : Option ℕ) → field r Unreadable ≡ Unreadable
unfolding field before
rest_unreadable (Some x) = refl
rest_unreadable None = refl

-- no number is read where no word is left, and the line has not ended where one is read
module _ (n : ℕ) where
  none_left : (s : List ℕ) → is_case (cond (is_empty s) (Case []) Unreadable) ≡ true
      → field (read_number (word s)) (fields n (drop_word s)) ≡ Unreadable
  unfolding field word run read_number read_digits is_empty is_case
  none_left [] h = refl
  none_left (b ∷ s) h = absurd (false≢true h)

  some_left : (s : List ℕ) → is_case (field (read_number (word s)) (fields n (drop_word s))) ≡ true → is_empty s ≡ false
  unfolding field word run read_number read_digits is_empty is_case
  some_left [] h = absurd (false≢true h)
  some_left (b ∷ s) h = refl

other_count : (n m : ℕ) (s : List ℕ) → is_case (fields n s) ≡ true → (n ≡ m → ⊥) → fields m s ≡ Unreadable
unfolding fields
other_count zero zero s h k = absurd (k refl)
other_count zero (suc m) s h k = none_left m (drop_blanks s) h
other_count (suc n) zero s h k = rw (some_left n (drop_blanks s) h)
other_count (suc n) (suc m) s h k =
    let r = read_number (word (drop_blanks s)) in
    let rest = drop_word (drop_blanks s) in
    ap (field r) (other_count n m rest (rest_is_case r (fields n rest) h) (λ e. k (ap suc e))) ∙ rest_unreadable r

-- a word is left where a number is read
pub words_left : (n : ℕ) (s xs : List ℕ) → fields (suc n) s ≡ Case xs → is_empty (drop_blanks s) ≡ false
unfolding fields is_case
words_left n s xs e = some_left n (drop_blanks s) (ap is_case e)

-- ---- where numbers are said, there are n

Counted : ℕ → Said → Type 0
Counted n PassedOver = Unit {0}
Counted n (Case xs) = length xs ≡ n
Counted n Unreadable = Unit {0}

one_more : (n : ℕ) (r : Option ℕ) (s : Said) → Counted n s → Counted (suc n) (field r s)
unfolding field before Counted
one_more n (Some x) PassedOver h = tt
one_more n (Some x) (Case xs) h = ap suc h
one_more n (Some x) Unreadable h = tt
one_more n None s h = tt

fields_counted : (n : ℕ) (s : List ℕ) → Counted n (fields n s)
unfolding fields Counted
fields_counted zero s = either (Counted zero) (is_empty (drop_blanks s)) refl tt
fields_counted (suc n) s =
    one_more n (read_number (word (drop_blanks s))) (fields n (drop_word (drop_blanks s))) (fields_counted n (drop_word (drop_blanks s)))

-- ---- the count decides

module _ (n : ℕ) (s xs : List ℕ) (e : fields n s ≡ Case xs) where
  count : length xs ≡ n
  unfolding Counted
  count = subst (Counted n) e (fields_counted n s)

  one_count : (m : ℕ) → (n ≡ m → ⊥) → fields m s ≡ Unreadable
  unfolding is_case
  one_count m other = other_count n m s (ap is_case e) other

  said : (m : ℕ) (t : Bool) → eqb n m ≡ t → fields m s ≡ cond t (Case xs) Unreadable
  said m true h = subst (λ (k : ℕ). fields k s ≡ Case xs) (eqb-true n m h) e
  said m false h = one_count m (λ k. false≢true (sym h ∙ eq-eqb n m k))

  pub one_case : case_fields s ≡ case_of xs
  unfolding case_fields case_of or_else filled
  one_case = rw (count, said width _ refl, said older_width _ refl) (go (eqb n width) (eqb n older_width))
    where
      go : (t u : Bool)
          → or_else (cond t (Case xs) Unreadable) (filled (cond u (Case xs) Unreadable))
          ≡ cond t (Case xs) (cond u (Case (from_older xs)) Unreadable)
      go true u = refl
      go false true = refl
      go false false = refl

pub no_case : (s : List ℕ) → fields width s ≡ Unreadable → fields older_width s ≡ Unreadable → case_fields s ≡ Unreadable
unfolding case_fields or_else filled
no_case s h k = rw (h, k)

-- ---- a case has the width of today

filled_counted : (s : Said) → Counted older_width s → Counted width (filled s)
unfolding filled Counted
filled_counted PassedOver h = tt
filled_counted (Case xs) h = length-append xs (replicate (width - older_width) 0) ∙ ap (λ (n : ℕ). n + (width - older_width)) h
filled_counted Unreadable h = tt

else_counted : (n : ℕ) (a b : Said) → Counted n a → Counted n b → Counted n (or_else a b)
unfolding or_else
else_counted n PassedOver b h k = k
else_counted n (Case xs) b h k = h
else_counted n Unreadable b h k = k

counted : (l : List ℕ) → Counted width (read_line l)
unfolding read_line says case_fields Counted
counted l =
    let s = take (text_length l) l in
    either (Counted width) (ltb longest_line (length l)) tt
    (either (Counted width) (is_empty (drop_blanks s) || eqb (get_or s 0 0) number_sign) tt
    (else_counted width (fields width s) (filled (fields older_width s)) (fields_counted width s)
    (filled_counted (fields older_width s) (fields_counted older_width s))))

pub case_length : (l xs : List ℕ) → read_line l ≡ Case xs → length xs ≡ width
unfolding Counted
case_length l xs e = subst (Counted width) e (counted l)

-- ---- a room for n numbers, which are zero until they are read

pub zeros_left : (n i : ℕ) (l : List ℕ) (x : ℕ) → i < n → drop i l ≡ replicate (n - i) 0
    → drop (i + 1) (set l i x) ≡ replicate (n - (i + 1)) 0
zeros_left n i l x more zeros =
    let left : n - i ≡ suc (n - (i + 1)) = omega arith in
    drop-set-lt (i + 1) l i x (omega arith)
    ∙ sym (drop-drop 1 i l)
    ∙ ap (drop 1) zeros
    ∙ ap (λ (k : ℕ). drop 1 (replicate k 0)) left
