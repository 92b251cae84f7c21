-- A book of one record, and what accept answers to a book whose records are all of one case, by what that case's answer and rating are.
-- `rate_of` is shut, so that the closed instances of accept come from it and from a theorem about the case. Assumes nothing.
use Rattle.std.specs.Prelude.{Bool, true, cond, not, ◌&&◌, List, [], ◌∷◌, ◌++◌, ℕ, ◌+◌, eqb, length, get_or, take}
use Rattle.bools.specs.Earliest.{earliest}
use Rattle.book_laws.specs.Bytes.{words_bytes}
use Rattle.book_laws.specs.Layout.{Layout}
use Rattle.book_laws.specs.Format.{trailer_bytes}
use Rattle.book_laws.specs.Accept.{Acceptance, unaccepted}

-- of a layout, without a note: the inputs of the case x that it stores, this number and this rating
abbrev pub one_record : Layout → List ℕ → (number rating : ℕ) → List ℕ
one_record l x number rating = words_bytes (take l.inputs x ++ (number ∷ rating ∷ [])) ++ trailer_bytes l 1

-- a record with this number and this rating, of a case whose answer is n and whose rating is i
abbrev pub as_rated : (number rating n i : ℕ) → Bool
as_rated number rating n i = eqb number n && eqb rating i

abbrev all_of : Bool → List Bool → Bool
all_of so_far [] = so_far
all_of so_far (t ∷ ts) = all_of (so_far && t) ts

-- by whether each record agrees
abbrev pub judged : (note : ℕ) → List Bool → Acceptance
judged note each =
    let n = length each in
    cond (all_of true each) (record { number = 0; count = n; note = note; named = 0 })
    (unaccepted 23 (earliest (λ j. not (get_or each j true)) n + 1))

-- of one record with the answer 0 and this rating, without a note, whose case has the answer n and the rating i
abbrev pub accepted_as : (rating n i : ℕ) → Acceptance
accepted_as rating n i = judged 0 (as_rated 0 rating n i ∷ [])
