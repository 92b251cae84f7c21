-- A refused case has rating 0 and a sheet of zeros, whichever refusal it was. Assumes nothing.
use Rattle.std.specs.Prelude.{◌≡◌, refl, List, ℕ, replicate}
use Rattle.std.proofs.Math.Path.{subst⁻¹}
use Rattle.bools.proofs.Laws.First.{or_refused_each}
use Rattle.rating.specs.Rate.{Answer, refused, rated, rate_of}
use Rattle.rating.specs.Refusals.{refusals_of}
use Rattle.rating.proofs.Laws.First.{by_refusals}

-- what a refused case has
pub record NoRating (a : Answer) : Type 0 where
  pub rating : a.rating ≡ 0
  pub sheet : a.sheet ≡ replicate 13 0

pub refused_zeros : (x : List ℕ) → ((rate_of x).number ≡ 0 → ⊥) → NoRating (rate_of x)
unfolding refused rated
refused_zeros x =
    subst⁻¹ (λ a. (a.number ≡ 0 → ⊥) → NoRating a) (by_refusals x)
    (or_refused_each (λ a. (a.number ≡ 0 → ⊥) → NoRating a) refused (refusals_of x) (rated x)
    (λ n given. record { rating = refl; sheet = refl })
    (λ given. absurd (given refl)))
