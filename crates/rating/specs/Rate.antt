-- What `rate` answers to a case: the number of the first refusal that applies, in the order of docs/RATING.md, with rating 0 and a sheet
-- of zeros; or 0, the rating of stage 10 and the sheet. Assumes nothing.
use Rattle.std.specs.Prelude.{◌≡◌, refl, cond, List, [], ◌∷◌, ℕ, eqb, replicate, Result, Ok, Err}
use Rattle.rating.specs.declared.rate.Rated.{Rated}
use Rattle.rating.specs.declared.refusal.Refusal.{Refusal}
use Rattle.rating.specs.Refusal.{number_of}
use Rattle.rating.specs.Values.{R', Rs, B, ys, yp}
use Rattle.rating.specs.Arrangements.{own}
use Rattle.rating.specs.Current.{of_alternating, Wd_of}
use Rattle.rating.specs.FieldRefusals.{field_refusal}
use Rattle.rating.specs.StageRefusals.{skin_refused, eddy_refused, dielectric_refused, current_refused}
use Rattle.rating.specs.Stage10.{numbers_of, E, current_of}

-- an answer: 0 for a rated case or else the refusal's number, the rating in mA, and the sheet
pub record Answer : Type 0 where
  pub number : ℕ
  pub rating : ℕ
  pub sheet : List ℕ

unfoldable pub refused : ℕ → Answer
refused n = record { number = n; rating = 0; sheet = replicate 13 0 }

-- what `rate` returns, as an answer. A refusal's stands written out, so that a crate above reads it and names no more than this.
abbrev pub answer_of : Result Rated Refusal → Answer
answer_of (Ok r) = record { number = 0; rating = r.rating; sheet = r.sheet }
answer_of (Err refusal) = record { number = number_of refusal; rating = 0; sheet = replicate 13 0 }

-- R', Rs, RA, B, ys, yp, R, X, S, W, Wd, dd, E
unfoldable pub sheet_of : List ℕ → List ℕ
sheet_of x =
    let a = own x in
    let ν = numbers_of x in
    let ac = of_alternating x in
    R' x ∷ ac (Rs x) ∷ a.RA x ∷ ac (B x) ∷ ac (ys x) ∷ ac (yp x) ∷ ν.R ∷ a.X x ∷ ν.S ∷ ν.W ∷ Wd_of x ∷ ν.dd ∷ E x ∷ []

unfoldable pub rated : List ℕ → Answer
rated x = record { number = 0; rating = current_of x; sheet = sheet_of x }

-- refusals 10 and 11, or the rating
unfoldable pub loaded : List ℕ → Answer
loaded x =
    cond (dielectric_refused x) (refused 10)
    (cond (current_refused x) (refused 11) (rated x))

-- refusals 8 and 9 before them
unfoldable pub judged : List ℕ → Answer
judged x =
    cond (skin_refused x) (refused 8)
    (cond (eddy_refused x) (refused 9) (loaded x))

-- the refusals of the fields before them. It is shut: another crate names it and cites its theorems, and sees no stage.
pub rate_of : List ℕ → Answer
rate_of x = cond (eqb (field_refusal x) 0) (judged x) (refused (field_refusal x))

-- for the proofs of this crate
pub rate_of_is : (x : List ℕ) → rate_of x ≡ cond (eqb (field_refusal x) 0) (judged x) (refused (field_refusal x))
unfolding rate_of
rate_of_is x = refl
