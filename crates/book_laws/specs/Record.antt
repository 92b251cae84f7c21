-- The records of a book: where record i stands, what its case, answer and rating are, and whether it agrees, that is whether they are the
-- answer and the rating of its case. Assumes nothing.
use Rattle.std.specs.Prelude.{Bool, true, not, ◌&&◌, List, ℕ, zero, suc, ◌+◌, ◌*◌, eqb}
use Rattle.bools.specs.Earliest.{earliest}
use Rattle.book_laws.specs.Bytes.{word_at, words_at}
use Rattle.book_laws.specs.Layout.{Layout, record_length}

-- where record i stands, from 0, in a book whose first record stands at `first`
abbrev pub place_from : Layout → ℕ → ℕ → ℕ
place_from l first i = first + record_length l * i

-- Of the record at `at`.

abbrev pub case_at : Layout → List ℕ → ℕ → List ℕ
case_at l b at = words_at b at l.inputs

abbrev pub answer_at : Layout → List ℕ → ℕ → ℕ
answer_at l b at = word_at b (at + 4 * l.inputs)

abbrev pub rating_at : Layout → List ℕ → ℕ → ℕ
rating_at l b at = word_at b (at + 4 * (l.inputs + 1))

unfoldable pub agrees : Layout → List ℕ → ℕ → Bool
agrees l b at =
    let a = l.rule (case_at l b at) in
    eqb (answer_at l b at) a.number && eqb (rating_at l b at) a.rating

-- Of the first n records: whether all agree, and the index of the first that does not, or n.

unfoldable pub all_agree : Layout → List ℕ → ℕ → ℕ → Bool
all_agree l b first zero = true
all_agree l b first (suc n) = all_agree l b first n && agrees l b (place_from l first n)

unfoldable pub first_disagreeing : Layout → List ℕ → ℕ → ℕ → ℕ
first_disagreeing l b first n = earliest (λ i. not (agrees l b (place_from l first i))) n
