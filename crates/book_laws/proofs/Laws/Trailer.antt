-- What a trailer that is not refused says: the places of the records, and the trailer's own numbers. Assumes nothing.
use Rattle.std.specs.Prelude.{Bool, true, false, cond, not, List, ◌≡◌, refl, ℕ, ◌+◌, ◌-◌, ◌*◌, ◌≤◌, eqb, ltb, length}
use Rattle.std.proofs.Common.{sym, ap, ◌∙◌, suc-ne-zero, arith, lit≤, ltb-false, eqb-true, eq-eqb, ne_eqb}
use Rattle.std.proofs.lemmas.Bool.{eqb-false, not-false}
use Rattle.bools.proofs.Laws.Tests.{neither, either, passed}
use Rattle.book_laws.specs.Bytes.{stands}
use Rattle.book_laws.specs.Layout.{Layout, record_length, trailer_length}
use Rattle.book_laws.specs.Format.{count_at, distance_at, length_at}
use Rattle.book_laws.specs.Trailer.{Description, undescribed, wrong_trailer, describe_at, describe_in, on_book_in}

-- the trailer's numbers, for a trailer at `at`
pub record Right (l : Layout) (at count distance size : ℕ) : Type 0 where
  pub most : count ≤ l.most
  pub distance_is : distance ≡ record_length l * count
  pub size_is : size ≡ record_length l
  pub before : distance ≤ at

pub right : (l : Layout) (at count distance size : ℕ) → wrong_trailer l at count distance size ≡ false → Right l at count distance size
unfolding wrong_trailer
right l at count distance size e =
    let tests = neither _ (ltb at distance) e in
    let tests_2 = neither _ (not (eqb size (record_length l))) tests.0 in
    let tests_3 = neither (ltb l.most count) (not (eqb distance (record_length l * count))) tests_2.0 in
    record {
      most = ltb-false _ _ tests_3.0;
      distance_is = eqb-true _ _ (not-false _ tests_3.1);
      size_is = eqb-true _ _ (not-false _ tests_2.1);
      before = ltb-false _ _ tests.1;
    }

-- a book that 20, 21 and 22 do not refuse
pub record Described (l : Layout) (b : List ℕ) (used : ℕ) (d : Description) : Type 0 where
  pub used_most : used ≤ length b
  pub places : d.first + record_length l * d.count + trailer_length l ≡ used
  pub most : d.count ≤ l.most
  pub marked : stands l.mark b (used - trailer_length l) ≡ true
  pub count_is : count_at l b (used - trailer_length l) ≡ d.count
  pub distance_is : distance_at l b (used - trailer_length l) ≡ record_length l * d.count
  pub size_is : length_at l b (used - trailer_length l) ≡ record_length l

pub described : (l : Layout) (b : List ℕ) (used : ℕ) → (describe_in l b used).number ≡ 0 → Described l b used (describe_in l b used)
unfolding describe_in describe_at undescribed
described l b used e =
    let number : Description → ℕ = λ d. d.number in
    let at = used - trailer_length l in
    let count = count_at l b at in
    let distance = distance_at l b at in
    let size = length_at l b at in
    let length_test = passed number (ltb (length b) used) _ _ (suc-ne-zero 19) e in
    let short_test = passed number (ltb used (trailer_length l)) _ _ (suc-ne-zero 20) (sym (ap number length_test.1) ∙ e) in
    let after_short = sym (ap number (length_test.1 ∙ short_test.1)) ∙ e in
    let mark_test = passed number (not (stands l.mark b at)) _ _ (suc-ne-zero 20) after_short in
    let after_mark = sym (ap number mark_test.1) ∙ after_short in
    let trailer_test = passed number (wrong_trailer l at count distance size) _ _ (suc-ne-zero 21) after_mark in
    let is = length_test.1 ∙ short_test.1 ∙ mark_test.1 ∙ trailer_test.1 in
    let fields = right l at count distance size trailer_test.0 in
    let count_is = ap (λ (d : Description). d.count) is in
    let first_is = ap (λ (d : Description). d.first) is in
    let long = ltb-false used (trailer_length l) short_test.0 in
    let same_distance = ap (λ (n : ℕ). record_length l * n) count_is in
    record {
      used_most = ltb-false _ _ length_test.0;
      places = omega (arith, first_is, same_distance, long, fields.before, fields.distance_is);
      most = omega (arith, count_is, fields.most);
      marked = not-false _ mark_test.0;
      count_is = sym count_is;
      distance_is = fields.distance_is ∙ sym same_distance;
      size_is = fields.size_is;
    }

-- 20, 21 and 22 are the numbers that a trailer is refused by
pub describe_number :
    (P : ℕ → Type 0) → P 0 → P 20 → P 21 → P 22 → (l : Layout) (b : List ℕ) (used : ℕ) → P (describe_in l b used).number
unfolding describe_in describe_at undescribed
describe_number P none is-20 is-21 is-22 l b used =
    let at = used - trailer_length l in
    let of_number : Description → Type 0 = λ d. P d.number in
    either of_number (ltb (length b) used) is-20
    (either of_number (ltb used (trailer_length l)) is-21
    (either of_number (not (stands l.mark b at)) is-21
    (either of_number (wrong_trailer l at (count_at l b at) (distance_at l b at) (length_at l b at)) is-22 none)))

pub describe_most : (l : Layout) (b : List ℕ) (used : ℕ) → (describe_in l b used).number ≤ 22
describe_most = describe_number (λ n. n ≤ 22) (lit≤ tt) (lit≤ tt) (lit≤ tt) (lit≤ tt)

module _ {A : Type 0} (l : Layout) (b : List ℕ) (used : ℕ) (refuse : ℕ → A) (go_on : Description → A) {d : Description}
    (is : d ≡ describe_in l b used) where
  pub on_book_on : d.number ≡ 0 → on_book_in l b used refuse go_on ≡ go_on d
  unfolding on_book_in
  on_book_on none = rw (← is) (simp (eq-eqb _ _ none))

  pub on_book_refused : (d.number ≡ 0 → ⊥) → on_book_in l b used refuse go_on ≡ refuse d.number
  unfolding on_book_in
  on_book_refused given = rw (← is) (simp (ne_eqb _ _ given))

-- what holds of a refusal by the trailer, where it is given, and of what follows, where it is not
pub on_book_by :
    {A : Type 0} (P : A → Type 0) (l : Layout) (b : List ℕ) (used : ℕ) (refuse : ℕ → A) (go_on : Description → A) →
    ((describe_in l b used).number ≡ 0 → P (go_on (describe_in l b used))) →
    (((describe_in l b used).number ≡ 0 → ⊥) → P (refuse (describe_in l b used).number)) → P (on_book_in l b used refuse go_on)
unfolding on_book_in
on_book_by P l b used refuse go_on of-next of_refusal = by_test (eqb (describe_in l b used).number 0) refl
  where
    by_test :
        (none : Bool) → eqb (describe_in l b used).number 0 ≡ none →
        P (cond none (go_on (describe_in l b used)) (refuse (describe_in l b used).number))
    by_test true t = of-next (eqb-true _ 0 t)
    by_test false t = of_refusal (eqb-false _ 0 t)

-- what holds of each refusal by the trailer and of what follows
pub on_book_each :
    {A : Type 0} (P : A → Type 0) (l : Layout) (b : List ℕ) (used : ℕ) (refuse : ℕ → A) (go_on : Description → A) →
    P (refuse 0) → P (refuse 20) → P (refuse 21) → P (refuse 22) → P (go_on (describe_in l b used)) → P (on_book_in l b used refuse go_on)
on_book_each P l b used refuse go_on none is-20 is-21 is-22 own =
    on_book_by P l b used refuse go_on (λ e. own) (λ given. describe_number (λ n. P (refuse n)) none is-20 is-21 is-22 l b used)
