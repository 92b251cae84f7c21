-- What `read` answers of an accepted book is a case with its own answer and rating by the rule of the book's layout, and where the answer
-- is 0, by `rate_of`. So demand 3 holds for books: for any bytes and used length that accept accepts, any of its records with answer 0, and
-- all fractions between the stated ends, the exact rise at the record's rating is at most the permitted rise, and at 2 mA more it is above.
-- Assumes nothing.
use Rattle.std.specs.Prelude.{List, [], ◌∷◌, ◌++◌, ◌≡◌, refl, ℕ, ◌+◌, ◌<◌, leb, length, get_or, take, drop}
use Rattle.std.proofs.Common.{sym, ap, subst, ◌∙◌, suc-ne-zero, arith, length-append, take_at, drop_at, leb-false}
use Rattle.bools.proofs.Laws.Tests.{passed}
use Rattle.exact.specs.Fraction.{whole, ◌≤F◌, ◌<F◌}
use Rattle.rating.specs.Values.{permitted_of}
use Rattle.rating.specs.Rate.{Answer, rate_of}
use Rattle.rating.specs.Chosen.{Chosen}
use Rattle.rating.specs.Arrangements.{own}
use Rattle.rating.specs.Allowed.{Allowed}
use Rattle.rating.specs.Exact.{exact_rise}
use Rattle.rating.proofs.Laws.Margin as Case
use Rattle.book_laws.specs.Layout.{Layout, missing}
use Rattle.book_laws.specs.Format.{all_fields}
use Rattle.book_laws.specs.Trailer.{describe_in}
use Rattle.book_laws.specs.Record.{place_from, case_at, answer_at, rating_at}
use Rattle.book_laws.specs.Read.{Fields, unread, read_after, read_in}
use Rattle.book_laws.specs.Accept.{AcceptedIn}
use Rattle.book_laws.specs.Book.{layout_of, read_of, Accepted}
use Rattle.book_laws.proofs.Laws.Bytes.{words_at_length}
use Rattle.book_laws.proofs.Laws.Lawful.{Lawful}
use Rattle.book_laws.proofs.Laws.Mark.{layout_lawful}
use Rattle.book_laws.proofs.Laws.Trailer.{on_book_on}
use Rattle.book_laws.proofs.Laws.Record.{agreed_stored, all_agree_each}
use Rattle.book_laws.proofs.Laws.Cases.{as_read_in}

-- lists that are the same, in two parts each of which the first are as long
same_parts : (n : ℕ) (p q r s : List ℕ) → length p ≡ n → length r ≡ n → p ++ q ≡ r ++ s → (p ≡ r) × (q ≡ s)
same_parts n p q r s p-long r-long same = (
  sym (take_at p q n p-long) ∙ ap (take n) same ∙ take_at r s n r-long,
  sym (drop_at p q n p-long) ∙ ap (drop n) same ∙ drop_at r s n r-long,
)

-- a record that is read is one of the book's
is_record :
    (l : Layout) (b : List ℕ) (used k : ℕ) → (describe_in l b used).number ≡ 0 → (read_in l b used k).number ≡ 0 →
    k < (describe_in l b used).count
unfolding read_in read_after unread
is_record l b used k none reads =
    let number : Fields → ℕ = λ f. f.number in
    let from_test = sym (ap number (on_book_on l b used unread (λ d. read_after l d b k) refl none)) ∙ reads in
    leb-false _ _ (passed number (leb (describe_in l b used).count k) _ _ (suc-ne-zero 25) from_test).0

-- what `read` answers of a record, a case x, an answer and a rating: those by the rule of the layout, from the inputs that it stores
pub record Rightly (l : Layout) (number rating : ℕ) (x : List ℕ) : Type 0 where
  pub case_is : x ≡ take l.inputs x ++ missing l
  pub answer_is : number ≡ (l.rule (take l.inputs x)).number
  pub rating_is : rating ≡ (l.rule (take l.inputs x)).rating

pub read_rightly_in :
    (l : Layout) (b : List ℕ) (used : ℕ) → AcceptedIn l b used → (k number rating : ℕ) (x : List ℕ) →
    read_in l b used k ≡ record { number = 0; fields = x ++ (number ∷ rating ∷ []) } → Rightly l number rating x
unfolding all_fields
read_rightly_in l b used fine k number rating x reads =
    let d = describe_in l b used in
    let counted = is_record l b used k fine.trailer_right (ap (λ (f : Fields). f.number) reads) in
    let at = place_from l d.first k in
    let is = agreed_stored l b at (all_agree_each l b d.first d.count k fine.records_agree counted) in
    let stored = case_at l b at in
    let whole_case = stored ++ missing l in
    let answered : List ℕ = answer_at l b at ∷ rating_at l b at ∷ [] in
    let same_fields = ap (λ (f : Fields). f.fields) (sym reads ∙ as_read_in l b used k counted fine.trailer_right) in
    let same_length : length x ≡ length whole_case =
    omega (arith, ap length same_fields, length-append x (number ∷ rating ∷ []), length-append whole_case answered)
    in
    let same = same_parts (length whole_case) x (number ∷ rating ∷ []) whole_case answered same_length refl same_fields in
    let stored_is : take l.inputs x ≡ stored =
    ap (take l.inputs) same.0 ∙ take_at stored (missing l) l.inputs (words_at_length b at l.inputs)
    in
    record {
      case_is = same.0 ∙ ap (λ (y : List ℕ). y ++ missing l) (sym stored_is);
      answer_is = ap (λ (f : List ℕ). get_or f 0 0) same.1 ∙ is.answer_is ∙ ap (λ (y : List ℕ). (l.rule y).number) (sym stored_is);
      rating_is = ap (λ (f : List ℕ). get_or f 1 0) same.1 ∙ is.rating_is ∙ ap (λ (y : List ℕ). (l.rule y).rating) (sym stored_is);
    }

-- where it is rated, by `rate_of` of the whole case
pub rated_rightly :
    {l : Layout} → Lawful l → (i : ℕ) (x : List ℕ) → Rightly l 0 i x → (0 ≡ (rate_of x).number) × (i ≡ (rate_of x).rating)
rated_rightly {l} lawful i x is =
    let rated_as : l.rule (take l.inputs x) ≡ rate_of x =
    lawful.rates (take l.inputs x) (sym is.answer_is) ∙ ap rate_of (sym is.case_is)
    in
    (is.answer_is ∙ ap (λ (a : Answer). a.number) rated_as, is.rating_is ∙ ap (λ (a : Answer). a.rating) rated_as)

-- For a book of either mark.

module _
    (b : List ℕ) (used : ℕ) (fine : Accepted b used) (k i : ℕ) (x : List ℕ)
    (reads : read_of b used k ≡ record { number = 0; fields = x ++ (0 ∷ i ∷ []) })
    (c : Chosen) (allowed : Allowed (own x) x c) where
  rightly : (0 ≡ (rate_of x).number) × (i ≡ (rate_of x).rating)
  rightly = rated_rightly (layout_lawful b used) i x (read_rightly_in (layout_of b used) b used fine k 0 i x reads)

  pub safe : exact_rise x c (whole i) ≤F whole (permitted_of x)
  safe =
      subst (λ (n : ℕ). exact_rise x c (whole n) ≤F whole (permitted_of x)) (sym rightly.1)
      (Case.safe x c allowed (sym rightly.0))

  pub close : whole (permitted_of x) <F exact_rise x c (whole (i + 2))
  close =
      subst (λ (n : ℕ). whole (permitted_of x) <F exact_rise x c (whole (n + 2))) (sym rightly.1)
      (Case.close x c allowed (sym rightly.0))
