-- docs/BOOK.md: the refusals of each operation on a book, in the order in which they are tried, each with its number and whether it is
-- given. Assumes nothing.
use Rattle.std.specs.Prelude.{not, ◌||◌, List, [], ◌∷◌, ◌++◌, ℕ, ◌+◌, ◌-◌, leb, ltb, length}
use Rattle.bools.specs.First.{Refusal}
use Rattle.book_laws.specs.Bytes.{stands}
use Rattle.book_laws.specs.Layout.{Layout, record_length, trailer_length}
use Rattle.book_laws.specs.Format.{count_at, distance_at, length_at}
use Rattle.book_laws.specs.Trailer.{Description, wrong_trailer}
use Rattle.book_laws.specs.Record.{all_agree}

unfoldable pub start_refusals : Layout → List ℕ → ℕ → List Refusal
start_refusals l b note = record { number = 24; given = ltb (length b) (note + trailer_length l) } ∷ []

-- what the trailer's numbers say, tested or not: the count, and where the first record stands
abbrev pub trailer_of : Layout → List ℕ → ℕ → Description
trailer_of l b used =
    let at = used - trailer_length l in
    record { number = 0; count = count_at l b at; first = at - distance_at l b at }

-- 20, 21 and 22, by which every operation but start begins
unfoldable pub trailer_refusals : Layout → List ℕ → ℕ → List Refusal
trailer_refusals l b used =
    let at = used - trailer_length l in
    record { number = 20; given = ltb (length b) used }
    ∷ record { number = 21; given = ltb used (trailer_length l) || not (stands l.mark b at) }
    ∷ record { number = 22; given = wrong_trailer l at (count_at l b at) (distance_at l b at) (length_at l b at) }
    ∷ []

-- 25 before 24
unfoldable pub append_refusals : Layout → List ℕ → ℕ → List Refusal
append_refusals l b used =
    trailer_refusals l b used
    ++ (record { number = 25; given = leb l.most (trailer_of l b used).count }
    ∷ record { number = 24; given = ltb (length b) (used + record_length l) }
    ∷ [])

unfoldable pub read_refusals : Layout → List ℕ → ℕ → ℕ → List Refusal
read_refusals l b used index =
    trailer_refusals l b used ++ (record { number = 26; given = leb (trailer_of l b used).count index } ∷ [])

unfoldable pub accept_refusals : Layout → List ℕ → ℕ → List Refusal
accept_refusals l b used =
    let d = trailer_of l b used in
    trailer_refusals l b used ++ (record { number = 23; given = not (all_agree l b d.first d.count) } ∷ [])
