-- The first refusal that applies: refusals in the order in which they are tried, and what is answered by them. Assumes nothing.
use Rattle.std.specs.Prelude.{Bool, cond, List, [], ◌∷◌, ℕ}

pub record Refusal : Type 0 where
  pub number : ℕ
  pub given : Bool

-- refused by the first that is given, else the answer
unfoldable pub or_refused : {A : Type 0} → (ℕ → A) → List Refusal → A → A
or_refused refuse [] answer = answer
or_refused refuse (r ∷ rs) answer = cond r.given (refuse r.number) (or_refused refuse rs answer)
