-- Records: their lengths, that a written record reads back as its fields, and that a record agrees where it has the fields of its case.
-- Assumes nothing.
use Rattle.std.proofs.Common.{ℕ, zero, suc, ◌+◌, ◌*◌, ◌<◌, eqb-true, eq-eqb, lt-ltb}
use Rattle.std.proofs.lemmas.Bool.{eqb-false}
use Rattle.std.specs.Prelude.{Bool, List, [], ◌∷◌, ◌++◌, ◌≡◌, length, get_or, take, drop}
use Rattle.std.proofs.Math.Bool.{true, false, ◌&&◌}
use Rattle.std.proofs.Common.{append_assoc, sym, ◌∙◌, add-one, arith, length-append, take_at, drop_at}
use Rattle.std.proofs.Math.Path.{refl, ap, ap₂}
use Rattle.std.proofs.Math.Dec.{eqb}
use Rattle.bools.proofs.Laws.Tests.{both}
use Rattle.book_laws.specs.Bytes.{word_at, words_at, words_bytes, below}
use Rattle.book_laws.specs.Layout.{Layout, record_fields, record_length}
use Rattle.book_laws.specs.Format.{fields_of, record_bytes, records_bytes, all_fields, answered_fields}
use Rattle.book_laws.specs.Record.{place_from, case_at, answer_at, rating_at, agrees, all_agree}
use Rattle.book_laws.specs.Build.{all_cases}
use Rattle.book_laws.proofs.Laws.Bytes.{below_append, words_bytes_length, words_bytes_bytes, words_at_length, words_at_add}
use Rattle.book_laws.proofs.Laws.Bytes.{words_at_skip, words_at_written}
use Rattle.book_laws.proofs.Laws.Lawful.{Lawful, number_of, rating_of}

-- a case of the layout: as many words of 32 bits as it stores
pub record Case (l : Layout) (x : List ℕ) : Type 0 where
  pub size : length x ≡ l.inputs
  pub words : below 4294967296 x ≡ true

pub first_case : (l : Layout) (x : List ℕ) (xs : List (List ℕ)) → all_cases l (x ∷ xs) ≡ true → Case l x × (all_cases l xs ≡ true)
unfolding all_cases
first_case l x xs e =
    let split = both (eqb (length x) l.inputs && below 4294967296 x) (all_cases l xs) e in
    let of_x = both (eqb (length x) l.inputs) (below 4294967296 x) split.0 in
    (record { size = eqb-true _ _ of_x.0; words = of_x.1 }, split.1)

pub all_cases_at : (l : Layout) (xs : List (List ℕ)) (i : ℕ) → all_cases l xs ≡ true → i < length xs → Case l (get_or xs i [])
all_cases_at l [] i e h = absurd (omega arith)
all_cases_at l (x ∷ xs) zero e h = (first_case l x xs e).0
all_cases_at l (x ∷ xs) (suc i) e h = all_cases_at l xs i (first_case l x xs e).1 (omega arith)

-- Lengths.

fields_of_length : (l : Layout) (x : List ℕ) → length x ≡ l.inputs → length (fields_of l x) ≡ record_fields l
unfolding fields_of
fields_of_length l x size = omega (arith, length-append x ((l.rule x).number ∷ (l.rule x).rating ∷ []))

pub record_bytes_length : (l : Layout) (x : List ℕ) → length x ≡ l.inputs → length (record_bytes l x) ≡ record_length l
unfolding record_bytes
record_bytes_length l x size = omega (arith, words_bytes_length (fields_of l x), fields_of_length l x size)

pub records_bytes_length :
    (l : Layout) (xs : List (List ℕ)) → all_cases l xs ≡ true → length (records_bytes l xs) ≡ record_length l * length xs
unfolding records_bytes
records_bytes_length l [] e = omega arith
records_bytes_length l (x ∷ xs) e =
    let split = first_case l x xs e in
    omega (
      arith,
      length-append (record_bytes l x) (records_bytes l xs),
      record_bytes_length l x split.0.size,
      records_bytes_length l xs split.1,
    )

pub records_bytes_append : (l : Layout) (xs ys : List (List ℕ)) → records_bytes l (xs ++ ys) ≡ records_bytes l xs ++ records_bytes l ys
unfolding records_bytes
records_bytes_append l [] ys = refl
records_bytes_append l (x ∷ xs) ys =
    ap (λ (t : List ℕ). record_bytes l x ++ t) (records_bytes_append l xs ys)
    ∙ sym (append_assoc (record_bytes l x) (records_bytes l xs) (records_bytes l ys))

-- The fields of a record are words: the answer and the rating are small.

fields_of_words : {l : Layout} → Lawful l → (x : List ℕ) → below 4294967296 x ≡ true → below 4294967296 (fields_of l x) ≡ true
unfolding fields_of below
fields_of_words {l} lawful x words =
    let number_is_word = lt-ltb (l.rule x).number 4294967296 (number_of lawful x) in
    let rating_is_word = lt-ltb (l.rule x).rating 4294967296 (rating_of lawful x) in
    below_append 4294967296 x _ words (ap₂ (λ (s t : Bool). s && (t && true)) number_is_word rating_is_word)

-- and it is written in bytes
pub record_bytes_bytes : (l : Layout) (x : List ℕ) → below 256 (record_bytes l x) ≡ true
unfolding record_bytes
record_bytes_bytes l x = words_bytes_bytes (fields_of l x)

-- A written record reads back.

record_read :
    {l : Layout} → Lawful l → (x q : List ℕ) → Case l x → words_at (record_bytes l x ++ q) 0 (record_fields l) ≡ fields_of l x
unfolding record_bytes
record_read {l} lawful x q is_a_case =
    ap (words_at (words_bytes (fields_of l x) ++ q) 0) (sym (fields_of_length l x is_a_case.size))
    ∙ words_at_written (fields_of l x) q (fields_of_words lawful x is_a_case.words)

-- record i of records one after another
pub records_read :
    {l : Layout} → Lawful l → (xs : List (List ℕ)) (q : List ℕ) (i : ℕ) → all_cases l xs ≡ true → i < length xs →
    words_at (records_bytes l xs ++ q) (record_length l * i) (record_fields l) ≡ fields_of l (get_or xs i [])
unfolding records_bytes
records_read lawful [] q i e h = absurd (omega arith)
records_read {l} lawful (x ∷ xs) q zero e h =
    let front : record_length l * zero ≡ 0 = omega arith in
    ap₂ (λ (b : List ℕ) (at : ℕ). words_at b at (record_fields l)) (append_assoc (record_bytes l x) (records_bytes l xs) q) front
    ∙ record_read lawful x (records_bytes l xs ++ q) (first_case l x xs e).0
records_read {l} lawful (x ∷ xs) q (suc i) e h =
    let split = first_case l x xs e in
    let place : record_length l * suc i ≡ length (record_bytes l x) + record_length l * i =
    omega (arith, record_bytes_length l x split.0.size)
    in
    ap₂ (λ (b : List ℕ) (at : ℕ). words_at b at (record_fields l)) (append_assoc (record_bytes l x) (records_bytes l xs) q) place
    ∙ words_at_skip (record_bytes l x) (records_bytes l xs ++ q) (record_length l * i) (record_fields l)
    ∙ records_read lawful xs q i split.1 (omega arith)

-- The fields of a record, and its case, answer and rating.

pub fields_are :
    (l : Layout) (b : List ℕ) (at : ℕ) →
    words_at b at (record_fields l) ≡ case_at l b at ++ (answer_at l b at ∷ rating_at l b at ∷ [])
unfolding words_at
fields_are l b at =
    let last : at + 4 * l.inputs + 4 ≡ at + 4 * (l.inputs + 1) = omega arith in
    words_at_add b at l.inputs 2
    ∙ ap (λ (k : ℕ). words_at b at l.inputs ++ (word_at b (at + 4 * l.inputs) ∷ word_at b k ∷ [])) last

-- the record at `at` is that of the case x
pub record Stored (l : Layout) (b : List ℕ) (at : ℕ) (x : List ℕ) : Type 0 where
  pub case_is : case_at l b at ≡ x
  pub answer_is : answer_at l b at ≡ (l.rule x).number
  pub rating_is : rating_at l b at ≡ (l.rule x).rating

-- where the fields of the case stand
pub stored :
    (l : Layout) (b : List ℕ) (at : ℕ) (x : List ℕ) → length x ≡ l.inputs → words_at b at (record_fields l) ≡ fields_of l x →
    Stored l b at x
unfolding fields_of
stored l b at x size e =
    let a = l.rule x in
    let same = sym (fields_are l b at) ∙ e in
    let case_size = words_at_length b at l.inputs in
    let case_is : case_at l b at ≡ x =
    sym (take_at (case_at l b at) _ l.inputs case_size) ∙ ap (take l.inputs) same ∙ take_at x _ l.inputs size
    in
    let rest : answer_at l b at ∷ rating_at l b at ∷ [] ≡ a.number ∷ a.rating ∷ [] =
    sym (drop_at (case_at l b at) _ l.inputs case_size) ∙ ap (drop l.inputs) same ∙ drop_at x _ l.inputs size
    in
    record {
      case_is = case_is;
      answer_is = ap (λ (t : List ℕ). get_or t 0 0) rest;
      rating_is = ap (λ (t : List ℕ). get_or t 1 0) rest;
    }

-- then it agrees
pub stored_agrees : (l : Layout) (b : List ℕ) (at : ℕ) (x : List ℕ) → Stored l b at x → agrees l b at ≡ true
unfolding agrees
stored_agrees l b at x is =
    rw is.case_is
    (ap₂ ◌&&◌ (eq-eqb (answer_at l b at) (l.rule x).number is.answer_is) (eq-eqb (rating_at l b at) (l.rule x).rating is.rating_is))

-- a record that agrees is that of its case
pub agreed_stored : (l : Layout) (b : List ℕ) (at : ℕ) → agrees l b at ≡ true → Stored l b at (case_at l b at)
unfolding agrees
agreed_stored l b at e =
    let a = l.rule (case_at l b at) in
    let split = both (eqb (answer_at l b at) a.number) (eqb (rating_at l b at) a.rating) e in
    record { case_is = refl; answer_is = eqb-true _ _ split.0; rating_is = eqb-true _ _ split.1 }

-- and `read` answers its case, with zeros for the inputs that are not stored, its answer and its rating
pub stored_fields :
    (l : Layout) (b : List ℕ) (at : ℕ) (x : List ℕ) → Stored l b at x →
    all_fields l (case_at l b at) (answer_at l b at) (rating_at l b at) ≡ answered_fields l x
unfolding answered_fields
stored_fields l b at x is = rw (is.case_is, is.answer_is, is.rating_is) refl

pub agreed_fields : (l : Layout) (b : List ℕ) (at : ℕ) → agrees l b at ≡ true →
    words_at b at (record_fields l) ≡ fields_of l (case_at l b at)
unfolding fields_of
agreed_fields l b at e =
    let is = agreed_stored l b at e in
    fields_are l b at ∙ ap₂ (λ (n i : ℕ). case_at l b at ++ (n ∷ i ∷ [])) is.answer_is is.rating_is

-- The first n records agree where each does.

module _ (l : Layout) (b : List ℕ) (first : ℕ) where
  pub all_agree_none : all_agree l b first 0 ≡ true
  unfolding all_agree
  all_agree_none = refl

  pub all_agree_next :
      (n : ℕ) → all_agree l b first n ≡ true → agrees l b (place_from l first n) ≡ true →
      all_agree l b first (n + 1) ≡ true
  unfolding all_agree
  all_agree_next n so_far agreed = ap (all_agree l b first) (add-one n) ∙ ap₂ ◌&&◌ so_far agreed

  pub all_agree_all :
      (n : ℕ) → ((i : ℕ) → i < n → agrees l b (place_from l first i) ≡ true) → all_agree l b first n ≡ true
  unfolding all_agree
  all_agree_all zero each = refl
  all_agree_all (suc n) each = ap₂ ◌&&◌ (all_agree_all n (λ i h. each i (omega arith))) (each n (omega arith))

  pub all_agree_each : (n i : ℕ) → all_agree l b first n ≡ true → i < n → agrees l b (place_from l first i) ≡ true
  unfolding all_agree
  all_agree_each zero i all h = absurd (omega arith)
  all_agree_each (suc n) i all h =
      let split = both (all_agree l b first n) (agrees l b (place_from l first n)) all in
      last_or_earlier (eqb i n) refl split.1 (all_agree_each n i split.0)
    where
      last_or_earlier :
          (last : Bool) → eqb i n ≡ last → agrees l b (place_from l first n) ≡ true →
          (i < n → agrees l b (place_from l first i) ≡ true) → agrees l b (place_from l first i) ≡ true
      last_or_earlier true t of-last of-earlier = ap (λ (k : ℕ). agrees l b (place_from l first k)) (eqb-true i n t) ∙ of-last
      last_or_earlier false t of-last of-earlier = let before = eqb-false i n t in of-earlier (omega (arith, before))

  -- one that differs is enough
  pub all_agree_stop : (n i : ℕ) → i < n → agrees l b (place_from l first i) ≡ false → all_agree l b first n ≡ false
  all_agree_stop n i h differing = by_test (all_agree l b first n) refl
    where
      by_test : (all : Bool) → all_agree l b first n ≡ all → all_agree l b first n ≡ false
      by_test true t = t ∙ sym (all_agree_each n i t h) ∙ differing
      by_test false t = t
