-- The description that the code holds, of a book that 20, 21 and 22 do not refuse, and what a refusal by one of them leaves.
-- Assumes nothing.
use Rattle.std.proofs.Common.{List, Ok, Err, arith, length, mul-le-mul_left, refl, suc-ne-zero, sym, ap, subst, ℕ, ◌*◌, ◌+◌, ◌<◌, ◌≡◌, ◌≤◌}
use Rattle.book_bytes.specs.declared.trailer.Description as Code
use Rattle.book_bytes.specs.declared.refusal.Refusal.{Refusal}
use Rattle.book_bytes.specs.declared.refusal.Refusal.TheVariants.{Length, Mark, Trailer, Disagrees, Space, Full, Index}
use Rattle.book_bytes.specs.Answers.{description_of}
use Rattle.book_bytes.specs.Refusal.{named_by, number_of}
use Rattle.book_laws.specs.Layout.{Layout, record_length}
use Rattle.book_laws.specs.Record.{place_from}
use Rattle.book_laws.specs.Trailer.{Description, describe_in, on_book_in, undescribed}
use Rattle.book_laws.proofs.Laws.Trailer.{Described, described, describe_most, on_book_on, on_book_refused}

-- A book that the code described.
module _ (l : Layout) (b : List ℕ) (used : ℕ) {d : Code.Description} (is : description_of (Ok d) ≡ describe_in l b used) where
  pub book_of : Described l b used (description_of (Ok d))
  book_of = subst (Described l b used) (sym is) (described l b used (sym (ap (λ (e : Description). e.number) is)))

  -- its records stand in the buffer
  records_fit : d.first + record_length l * d.count ≤ length b
  records_fit = omega (arith, book_of.places, book_of.used_most)

  pub record_fits : (i : ℕ) → i < d.count → place_from l d.first i + record_length l ≤ length b
  record_fits i h =
      let more : i + 1 ≤ d.count = omega (arith, h) in
      omega (arith, records_fit, mul-le-mul_left (record_length l) more)

  pub goes_on :
      {A : Type 0} (refuse : ℕ → A) (go_on : Description → A) →
      on_book_in l b used refuse go_on ≡ go_on (description_of (Ok d))
  goes_on refuse go_on = on_book_on l b used refuse go_on is refl

refusal_given : (refusal : Refusal) → number_of refusal ≡ 0 → ⊥
refusal_given Length e = suc-ne-zero 19 e
refusal_given Mark e = suc-ne-zero 20 e
refusal_given Trailer e = suc-ne-zero 21 e
refusal_given (Disagrees k) e = suc-ne-zero 22 e
refusal_given Space e = suc-ne-zero 23 e
refusal_given Full e = suc-ne-zero 24 e
refusal_given Index e = suc-ne-zero 25 e

names_none : (refusal : Refusal) → number_of refusal ≤ 22 → named_by refusal ≡ 0
names_none Length h = refl
names_none Mark h = refl
names_none Trailer h = refl
names_none (Disagrees k) h = absurd (omega arith)
names_none Space h = refl
names_none Full h = refl
names_none Index h = refl

-- A book that the trailer's refusals refuse.
module _ (l : Layout) (b : List ℕ) (used : ℕ) (refusal : Refusal) (is : description_of (Err refusal) ≡ describe_in l b used) where
  pub refused :
      {A : Type 0} (refuse : ℕ → A) (go_on : Description → A) →
      on_book_in l b used refuse go_on ≡ refuse (number_of refusal)
  unfolding undescribed
  refused refuse go_on = on_book_refused l b used refuse go_on is (refusal_given refusal)

  -- none of them names a record
  pub named_none : named_by refusal ≡ 0
  unfolding undescribed
  named_none =
      let number_is = ap (λ (e : Description). e.number) is in
      names_none refusal (omega (arith, number_is, describe_most l b used))
