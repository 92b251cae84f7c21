-- The cases of the records that stand in a book: as many as are counted, each one a case where the buffer is of bytes, and each one as
-- `read` answers it. Assumes nothing.
use Rattle.std.proofs.Common.{List, [], ◌∷◌, ◌++◌, ℕ, zero, suc, ◌+◌, ◌≤◌, ◌<◌, eqb-true, eq-eqb, lt-ltb}
use Rattle.std.proofs.lemmas.Bool.{eqb-false, lt-leb}
use Rattle.std.specs.Prelude.{Bool, ◌≡◌, length, take}
use Rattle.std.proofs.Math.Bool.{true, false, ◌&&◌}
use Rattle.std.proofs.Math.Path.{refl, sym, ap, ap₂}
use Rattle.std.proofs.Common.{◌∙◌, arith, append_assoc, take_at}
use Rattle.std.proofs.Math.Numerals.{add-one}
use Rattle.std.proofs.Math.Dec.{eqb}
use Rattle.std.proofs.Math.ListN.{get_or, length-append, get_or-append}
use Rattle.std.proofs.Math.Seq.{get_or_at}
use Rattle.book_laws.specs.Bytes.{word_at, words_at, below}
use Rattle.book_laws.specs.Layout.{Layout, missing}
use Rattle.book_laws.specs.Format.{all_fields, answered_fields}
use Rattle.book_laws.specs.Trailer.{describe_in}
use Rattle.book_laws.specs.Record.{place_from, case_at, answer_at, rating_at}
use Rattle.book_laws.specs.Read.{Fields, read_after, read_in, cases_read_in}
use Rattle.book_laws.specs.Accept.{AcceptedIn}
use Rattle.book_laws.specs.Build.{all_cases}
use Rattle.book_laws.proofs.Laws.Bytes.{number_at_below, words_at_length}
use Rattle.book_laws.proofs.Laws.Trailer.{on_book_on}
use Rattle.book_laws.proofs.Laws.Record.{agreed_stored, stored_fields, all_agree_each}
use Rattle.book_laws.proofs.Laws.Build.{all_cases_append}

unfoldable pub cases_at : Layout → List ℕ → ℕ → ℕ → List (List ℕ)
cases_at l b first zero = []
cases_at l b first (suc n) = cases_at l b first n ++ (case_at l b (place_from l first n) ∷ [])

words_of : (b : List ℕ) (at n : ℕ) → below 256 b ≡ true → below 4294967296 (words_at b at n) ≡ true
unfolding below words_at
words_of b at zero bytes = refl
words_of b at (suc n) bytes = ap₂ ◌&&◌ (lt-ltb (word_at b at) 4294967296 (number_at_below b at 4 bytes)) (words_of b (at + 4) n bytes)

module _ (l : Layout) (b : List ℕ) (first : ℕ) where
  pub cases_are : (n : ℕ) → below 256 b ≡ true → all_cases l (cases_at l b first n) ≡ true
  unfolding all_cases cases_at
  cases_are zero bytes = refl
  cases_are (suc n) bytes =
      let at = place_from l first n in
      let is_a_case =
      ap₂ ◌&&◌ (eq-eqb (length (words_at b at l.inputs)) l.inputs (words_at_length b at l.inputs)) (words_of b at l.inputs bytes)
      in
      all_cases_append l (cases_at l b first n) _ (cases_are n bytes) (ap₂ ◌&&◌ is_a_case refl)

  pub cases_at_length : (n : ℕ) → length (cases_at l b first n) ≡ n
  unfolding cases_at
  cases_at_length zero = refl
  cases_at_length (suc n) = length-append (cases_at l b first n) _ ∙ ap (λ (k : ℕ). k + 1) (cases_at_length n) ∙ add-one n

  pub cases_at_at : (n i : ℕ) → i < n → get_or (cases_at l b first n) i [] ≡ case_at l b (place_from l first i)
  unfolding cases_at
  cases_at_at zero i h = absurd (omega arith)
  cases_at_at (suc n) i h = last_or_earlier (eqb i n) refl (cases_at_at n i)
    where
      last_or_earlier :
          (last : Bool) → eqb i n ≡ last → (i < n → get_or (cases_at l b first n) i [] ≡ case_at l b (place_from l first i)) →
          get_or (cases_at l b first (suc n)) i [] ≡ case_at l b (place_from l first i)
      last_or_earlier true t of-earlier =
          get_or_at (cases_at l b first n) _ [] [] i (cases_at_length n ∙ sym (eqb-true i n t))
          ∙ ap (λ (k : ℕ). case_at l b (place_from l first k)) (sym (eqb-true i n t))
      last_or_earlier false t of-earlier =
          let before = eqb-false i n t in
          get_or-append (cases_at l b first n) _ [] i (omega (arith, before, cases_at_length n)) ∙ of-earlier (omega (arith, before))

module _ (l : Layout) (b : List ℕ) (used i : ℕ) (is_record : i < (describe_in l b used).count) where
  abbrev first : ℕ
  first = (describe_in l b used).first

  abbrev place : ℕ
  place = place_from l first i

  -- `read` answers the case, the answer and the rating, judged or not
  pub as_read_in :
      (describe_in l b used).number ≡ 0 →
      read_in l b used i ≡ record { number = 0; fields = all_fields l (case_at l b place) (answer_at l b place) (rating_at l b place) }
  unfolding read_in read_after
  as_read_in none = on_book_on l b used _ _ refl none ∙ simp (lt-leb (describe_in l b used).count i is_record)

  -- in an accepted book they are the answer and the rating of the case
  pub cases_as_read_in :
      AcceptedIn l b used →
      read_in l b used i ≡ record { number = 0; fields = answered_fields l (get_or (cases_at l b first (describe_in l b used).count) i []) }
  cases_as_read_in fine =
      let is = agreed_stored l b place (all_agree_each l b first _ i fine.records_agree is_record) in
      as_read_in fine.trailer_right
      ∙ ap (λ (f : List ℕ). record { number = 0; fields = f })
      (stored_fields l b place _ is ∙ ap (answered_fields l) (sym (cases_at_at l b first _ i is_record)))

-- the cases that `read` answers are those of the records that stand there
pub cases_read :
    (l : Layout) (b : List ℕ) (used : ℕ) → (describe_in l b used).number ≡ 0 → (n : ℕ) → n ≤ (describe_in l b used).count →
    cases_read_in l b used n ≡ cases_at l b (describe_in l b used).first n
unfolding cases_read_in cases_at all_fields
cases_read l b used none zero h = refl
cases_read l b used none (suc n) h =
    let at = place_from l (describe_in l b used).first n in
    let fields_are = ap (λ (f : Fields). f.fields) (as_read_in l b used n (omega arith) none) in
    let case_is : take l.inputs (read_in l b used n).fields ≡ case_at l b at =
    ap (take l.inputs) (fields_are ∙ append_assoc (case_at l b at) (missing l) _)
    ∙ take_at (case_at l b at) _ l.inputs (words_at_length b at l.inputs)
    in
    ap₂ (λ (xs : List (List ℕ)) (x : List ℕ). xs ++ (x ∷ [])) (cases_read l b used none n (omega arith)) case_is
