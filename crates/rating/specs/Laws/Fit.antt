-- What the refusals before 10 leave of a case in an arrangement: the facts that every bound on its numbers takes. Assumes nothing.
use Rattle.std.specs.Prelude.{◌≡◌, true, List, ℕ, ◌*◌, ◌≤◌}
use Rattle.formulas.specs.Refusals.{skin_limit}
use Rattle.rating.specs.Values.{Rs, B, zs, zp}
use Rattle.rating.specs.Arrangement.{Arrangement}
use Rattle.rating.specs.Laws.Sound.{Sound, Alternating}

pub record Fit (a : Arrangement) (x : List ℕ) : Type 0 where
  pub sound : Sound x
  pub known : a.known ≡ true
  pub limits : a.limits x ≡ true
  pub geometry : a.geometry x ≡ true
  pub alternating : a.alternates ≡ true → Alternating x
  pub skin : a.alternates ≡ true → zs x ≤ skin_limit
  pub proximity : a.alternates ≡ true → zp x ≤ skin_limit
  pub eddies : a.eddies ≡ true → 5 * B x ≤ Rs x
