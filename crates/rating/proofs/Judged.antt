-- The answer once no refusal of the fields is given: refusals 8 and 9, and what follows. Assumes nothing.
use Rattle.std.proofs.Common.{◌≡◌, List, ℕ, eq-eqb}
use Rattle.rating.specs.FieldRefusals.{field_refusal}
use Rattle.rating.specs.Rate.{judged, rate_of, rate_of_is}

pub judged_next : (x : List ℕ) → field_refusal x ≡ 0 → rate_of x ≡ judged x
judged_next x none_given = rw rate_of_is (simp (eq-eqb _ 0 none_given))
