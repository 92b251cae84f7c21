-- docs/BOOK.md, accept: every record is its case's rating. Refusal 23 names the first record that is not. Assumes nothing.
use Rattle.std.specs.Prelude.{true, false, cond, List, ◌≡◌, ℕ, ◌+◌, ◌-◌, ◌≤◌, ◌<◌}
use Rattle.book_laws.specs.Layout.{Layout}
use Rattle.book_laws.specs.Trailer.{Description, describe_in, on_book_in}
use Rattle.book_laws.specs.Record.{place_from, agrees, all_agree, first_disagreeing}

-- 0 or the refusal's number, the count, the note's length, and the record that 23 names, from 1
pub record Acceptance : Type 0 where
  pub number : ℕ
  pub count : ℕ
  pub note : ℕ
  pub named : ℕ

unfoldable pub unaccepted : ℕ → ℕ → Acceptance
unaccepted n k = record { number = n; count = 0; note = 0; named = k }

unfoldable pub accept_after : Layout → Description → List ℕ → Acceptance
accept_after l d b =
    cond (all_agree l b d.first d.count) (record { number = 0; count = d.count; note = d.first; named = 0 })
    (unaccepted 23 (first_disagreeing l b d.first d.count + 1))

unfoldable pub accept_in : Layout → List ℕ → ℕ → Acceptance
accept_in l b used = on_book_in l b used (λ n. unaccepted n 0) (λ d. accept_after l d b)

-- what accept accepts: a trailer that is not refused, and records that all agree
pub record AcceptedIn (l : Layout) (b : List ℕ) (used : ℕ) : Type 0 where
  pub trailer_right : (describe_in l b used).number ≡ 0
  pub records_agree : all_agree l b (describe_in l b used).first (describe_in l b used).count ≡ true

-- record k, from 1, is the first of the book's that is not its case's rating
pub record DisagreesFirstIn (l : Layout) (b : List ℕ) (used k : ℕ) : Type 0 where
  pub from_one : 0 < k
  pub to_count : k ≤ (describe_in l b used).count
  pub disagrees : agrees l b (place_from l (describe_in l b used).first (k - 1)) ≡ false
  pub earlier_agree : (i : ℕ) → i < k - 1 → agrees l b (place_from l (describe_in l b used).first i) ≡ true
