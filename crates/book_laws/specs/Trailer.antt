-- What the trailer at the end of the used length says of a book: refusal 20, 21 or 22, or how many records there are and where the first
-- one stands, which is the note's length. Assumes nothing.
use Rattle.std.specs.Prelude.{Bool, cond, not, ◌||◌, List, ℕ, ◌-◌, ◌*◌, eqb, ltb, length}
use Rattle.book_laws.specs.Bytes.{stands}
use Rattle.book_laws.specs.Layout.{Layout, record_length, trailer_length}
use Rattle.book_laws.specs.Format.{count_at, distance_at, length_at}

pub record Description : Type 0 where
  pub number : ℕ
  pub count : ℕ
  pub first : ℕ

unfoldable pub undescribed : ℕ → Description
undescribed n = record { number = n; count = 0; first = 0 }

-- 22: more records than the layout allows, distance or length wrong, or records longer than what precedes the trailer
unfoldable pub wrong_trailer : Layout → (before count distance size : ℕ) → Bool
wrong_trailer l before count distance size =
    ltb l.most count || not (eqb distance (record_length l * count)) || not (eqb size (record_length l)) || ltb before distance

-- the trailer stands at `at`
unfoldable pub describe_at : Layout → List ℕ → ℕ → Description
describe_at l b at =
    let count = count_at l b at in
    let distance = distance_at l b at in
    cond (not (stands l.mark b at)) (undescribed 21)
    (cond (wrong_trailer l at count distance (length_at l b at)) (undescribed 22)
    (record { number = 0; count = count; first = at - distance }))

unfoldable pub describe_in : Layout → List ℕ → ℕ → Description
describe_in l b used =
    cond (ltb (length b) used) (undescribed 20)
    (cond (ltb used (trailer_length l)) (undescribed 21) (describe_at l b (used - trailer_length l)))

-- append, read and accept try 20, 21 and 22 first, then their own
unfoldable pub on_book_in : {A : Type 0} → Layout → List ℕ → ℕ → (ℕ → A) → (Description → A) → A
on_book_in l b used refuse go_on =
    let d = describe_in l b used in
    cond (eqb d.number 0) (go_on d) (refuse d.number)
