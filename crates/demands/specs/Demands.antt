-- The three demands, each as one theorem. Who believes the definitions that docs/CLAIMS.md lists needs to read nothing else: every premise
-- stands on its own statement, and each proof is a law of `rating` or of `book_laws`, cited below. A case is a list of numbers; a book is
-- the first `used` bytes of a buffer b, a note before its records, and its mark says of which layout it is. In code `rate`, `start`,
-- `append`, `read` and `accept` return what `rate_of`, `start_of`, `append_of`, `read_of` and `accept_of` say, for every argument: their
-- contracts have no premise, and the prover shows that they end. Assumes nothing.
use Rattle.std.specs.Prelude.{true, cond, List, [], ◌∷◌, ◌++◌, ◌≡◌, ℕ, ◌+◌, ◌-◌, ◌≤◌, eqb, length, take, drop, replicate}
use Rattle.bools.specs.First.{or_refused}
use Rattle.exact.specs.Fraction.{whole, ◌≤F◌, ◌<F◌}
use Rattle.splice.specs.Splice.{splice}
use Rattle.rating.specs.Values.{permitted_of}
use Rattle.rating.specs.Chosen.{Chosen}
use Rattle.rating.specs.Arrangements.{own}
use Rattle.rating.specs.Allowed.{Allowed}
use Rattle.rating.specs.Refusals.{refusals_of}
use Rattle.rating.specs.Rate.{rated, rate_of}
use Rattle.rating.specs.Exact.{exact_rise}
use Rattle.rating.specs.Laws.Logarithms.{lowest}
use Rattle.book_laws.specs.Bytes.{below, stands}
use Rattle.book_laws.specs.Layout.{record_length, trailer_length, rbk1}
use Rattle.book_laws.specs.Format.{record_bytes, all_fields, trailer_bytes}
use Rattle.book_laws.specs.Record.{place_from, case_at, answer_at, rating_at, first_disagreeing}
use Rattle.book_laws.specs.Refusals.{start_refusals, trailer_of, append_refusals, read_refusals, accept_refusals}
use Rattle.book_laws.specs.Build.{all_cases}
use Rattle.book_laws.specs.Book.{
  layout_of,
  new_layout,
  IsNew,
  describe,
  start_of,
  append_of,
  read_of,
  accept_of,
  Accepted,
  DisagreesFirst,
  Appended,
  cases_of,
  build,
  built,
  Fits,
  Kept,
}

-- Every case and every book of any bytes gets its answer or the first refusal that applies. A refused case rates 0; a refused operation
-- changes no byte. The list of refusals is in the order in which they are tried; where none is given, the last line is the answer.
pub record Demand1 : Type 0 where
  pub case :
      (x : List ℕ) →
      rate_of x ≡ or_refused (λ n. record { number = n; rating = 0; sheet = replicate 13 0 }) (refusals_of x) (rated x)
  pub start :
      (b : List ℕ) (note : ℕ) →
      let l = new_layout in
      start_of b note
      ≡ or_refused (λ n. record { number = n; used = 0; bytes = b }) (start_refusals l b note)
      (record { number = 0; used = note + trailer_length l; bytes = splice b note (trailer_bytes l 0) })
  pub append :
      (b : List ℕ) (used : ℕ) (x : List ℕ) →
      let l = new_layout in
      let count = (trailer_of l b used).count in
      append_of b used x
      ≡ or_refused (λ n. record { number = n; used = 0; bytes = b }) (append_refusals l b used)
      (record {
        number = 0;
        used = used + record_length l;
        bytes = splice b (used - trailer_length l) (record_bytes l x ++ trailer_bytes l (count + 1));
      })
  pub read :
      (b : List ℕ) (used index : ℕ) →
      let l = layout_of b used in
      let at = place_from l (trailer_of l b used).first index in
      read_of b used index
      ≡ or_refused (λ n. record { number = n; fields = replicate 32 0 }) (read_refusals l b used index)
      (record { number = 0; fields = all_fields l (case_at l b at) (answer_at l b at) (rating_at l b at) })
  -- refusal 23 names the first record that is not its case's rating, from 1
  pub accept :
      (b : List ℕ) (used : ℕ) →
      let l = layout_of b used in
      let d = trailer_of l b used in
      let named = first_disagreeing l b d.first d.count + 1 in
      accept_of b used
      ≡ or_refused (λ n. record { number = n; count = 0; note = 0; named = cond (eqb n 23) named 0 }) (accept_refusals l b used)
      (record { number = 0; count = d.count; note = d.first; named = 0 })
  -- in short
  pub refused_case : (x : List ℕ) → ((rate_of x).number ≡ 0 → ⊥) → ((rate_of x).rating ≡ 0) × ((rate_of x).sheet ≡ replicate 13 0)
  pub refused_start : (b : List ℕ) (note : ℕ) → ((start_of b note).number ≡ 0 → ⊥) → (start_of b note).bytes ≡ b
  pub refused_append : (b : List ℕ) (used : ℕ) (x : List ℕ) → ((append_of b used x).number ≡ 0 → ⊥) → (append_of b used x).bytes ≡ b
  -- a book with the mark RBK1 is not appended to, whatever its trailer says further
  pub older_append :
      (b : List ℕ) (used : ℕ) (x : List ℕ) → used ≤ length b → stands rbk1.mark b (used - trailer_length rbk1) ≡ true →
      append_of b used x ≡ record { number = 21; used = 0; bytes = b }
  -- every record before the one that 23 names agrees, and it does not
  pub first_named : (b : List ℕ) (used : ℕ) → (accept_of b used).number ≡ 23 → DisagreesFirst b used (accept_of b used).named

-- Each rating and sheet number is that of the stages. Cases appended to a fresh book read back as they were. An accepted book of the new
-- layout, RBK2, built again from its note and its cases, has the same bytes.
pub record Demand2 : Type 0 where
  pub stages : (x : List ℕ) → (rate_of x).number ≡ 0 → rate_of x ≡ rated x
  pub kept :
      (b : List ℕ) (note : ℕ) (xs : List (List ℕ)) → all_cases new_layout xs ≡ true → (build b note xs).number ≡ 0 →
      let w = build b note xs in
      IsNew w.bytes w.used × Kept b note xs w
  -- appending is not refused where the buffer is long enough and the records are not too many
  pub fits :
      (b : List ℕ) (note : ℕ) (xs : List (List ℕ)) → all_cases new_layout xs ≡ true → Fits b note (length xs) →
      build b note xs ≡ built b note xs
  -- what accept accepts, with the count and the note's length of its trailer
  pub accepted : (b : List ℕ) (used : ℕ) → (accept_of b used).number ≡ 0 → Accepted b used
  pub accepts :
      (b : List ℕ) (used : ℕ) → Accepted b used →
      accept_of b used ≡ record { number = 0; count = (describe b used).count; note = (describe b used).first; named = 0 }
  -- in a buffer c that is long enough and has the note at its front; what stood behind stays
  pub rebuilt :
      (b : List ℕ) (used : ℕ) → below 256 b ≡ true → IsNew b used → Accepted b used → (c : List ℕ) → used ≤ length c →
      let note = (describe b used).first in
      take note c ≡ take note b →
      build c note (cases_of b used) ≡ record { number = 0; used = used; bytes = take used b ++ drop used c }
  -- to any accepted book, however it was made
  pub appended :
      (b : List ℕ) (used : ℕ) (x : List ℕ) → below 256 b ≡ true → Accepted b used → all_cases new_layout (x ∷ []) ≡ true →
      (append_of b used x).number ≡ 0 →
      let w = append_of b used x in
      IsNew b used × IsNew w.bytes w.used × Appended b used x w

-- For each rated record of an accepted book, of either mark, its case x and its rating i as `read` answers them, and whichever fractions
-- between the stated ends stand for pi, ln 2 and each logarithm that the arrangement has: at i mA the exact rise is at most the permitted
-- rise, at i + 2 it is above.
pub record Demand3 : Type 0 where
  pub under :
      (b : List ℕ) (used : ℕ) → Accepted b used → (k i : ℕ) (x : List ℕ) →
      read_of b used k ≡ record { number = 0; fields = x ++ (0 ∷ i ∷ []) } → (c : Chosen) → Allowed (own x) x c →
      exact_rise x c (whole i) ≤F whole (permitted_of x)
  pub over :
      (b : List ℕ) (used : ℕ) → Accepted b used → (k i : ℕ) (x : List ℕ) →
      read_of b used k ≡ record { number = 0; fields = x ++ (0 ∷ i ∷ []) } → (c : Chosen) → Allowed (own x) x c →
      whole (permitted_of x) <F exact_rise x c (whole (i + 2))
  -- there are such fractions for every case: the lower ends
  pub some : (x : List ℕ) → Allowed (own x) x (lowest x)
