-- Accept accepts a book where it is an accepted one, and only there; and how large the count of a book is, accepted or not.
-- Assumes nothing.
use Rattle.std.proofs.Common.{arith}
use Rattle.std.specs.Prelude.{Bool, true, false, cond, List, ◌≡◌, ℕ, ◌+◌, ◌*◌, ◌≤◌, length}
use Rattle.std.proofs.Math.Path.{refl}
use Rattle.std.proofs.Common.{◌∙◌, suc-ne-zero}
use Rattle.bools.proofs.Laws.Tests.{either}
use Rattle.book_laws.specs.Layout.{Layout, record_length}
use Rattle.book_laws.specs.Trailer.{describe_in}
use Rattle.book_laws.specs.Record.{all_agree}
use Rattle.book_laws.specs.Accept.{Acceptance, unaccepted, accept_after, accept_in, AcceptedIn}
use Rattle.book_laws.proofs.Laws.Trailer.{described, on_book_on, on_book_by}

-- how large the count is, and that the note and the records are within the buffer
pub record Counted (l : Layout) (b : List ℕ) (a : Acceptance) : Type 0 where
  pub within : a.note + record_length l * a.count ≤ length b
  pub most : a.count ≤ l.most

agreed : (all : Bool) (k : ℕ) (rest : Acceptance) → (cond all rest (unaccepted 23 k)).number ≡ 0 → all ≡ true
unfolding unaccepted
agreed true k rest e = refl
agreed false k rest e = absurd (suc-ne-zero 22 e)

module _ (l : Layout) (b : List ℕ) (used : ℕ) where
  pub accepted_in : (accept_in l b used).number ≡ 0 → AcceptedIn l b used
  unfolding accept_in accept_after unaccepted
  accepted_in =
      let d = describe_in l b used in
      on_book_by (λ (a : Acceptance). a.number ≡ 0 → AcceptedIn l b used) l b used _ (λ e. accept_after l e b)
      (λ none e. record { trailer_right = none; records_agree = agreed (all_agree l b d.first d.count) _ _ e })
      (λ given e. absurd (given e))

  pub accepts_in :
      let d = describe_in l b used in
      AcceptedIn l b used → accept_in l b used ≡ record { number = 0; count = d.count; note = d.first; named = 0 }
  unfolding accept_in accept_after
  accepts_in fine = on_book_on l b used _ _ refl fine.trailer_right ∙ simp fine.records_agree

  none_counted : (n j : ℕ) → Counted l b (unaccepted n j)
  unfolding unaccepted
  none_counted n j = record { within = omega arith; most = omega arith }

  pub count_within : Counted l b (accept_in l b used)
  unfolding accept_in accept_after
  count_within =
      on_book_by (Counted l b) l b used _ (λ e. accept_after l e b)
      (λ none.
      let told = described l b used none in
      either (Counted l b) (all_agree l b (describe_in l b used).first (describe_in l b used).count)
      (record { within = omega (arith, told.places, told.used_most); most = told.most })
      (none_counted 23 _))
      (λ given. none_counted (describe_in l b used).number _)
