-- What stage 10's theorems need of an arrangement beside its current: that X and eddies are of an alternating one, n, S and W in their
-- ranges, and S and W close to their exact values. Assumes nothing.
use Rattle.std.specs.Prelude.{◌≡◌, true, List, ℕ, ◌≤◌}
use Rattle.std.proofs.Common.{lit≤}
use Rattle.exact.specs.Fraction.{whole}
use Rattle.exact.specs.Error.{Within}
use Rattle.exact.proofs.Laws.Error.{within_itself}
use Rattle.formulas.specs.Laws.Bounds.{most_armour_loss, most_sheath_loss}
use Rattle.formulas.specs.Laws.Ranges.{In}
use Rattle.fields.specs.Fields as Field
use Rattle.rating.specs.Chosen.{Chosen}
use Rattle.rating.specs.Arrangement.{Arrangement}
use Rattle.rating.specs.Allowed.{Allowed}
use Rattle.rating.specs.Laws.Fit.{Fit}

pub record Lawful (a : Arrangement) : Type 0 where
  pub reacts : a.reactive ≡ true → a.alternates ≡ true
  pub eddies : a.eddies ≡ true → a.alternates ≡ true
  pub apart : {x : List ℕ} → a.reactive ≡ true → a.geometry x ≡ true → Field.sheath_diameter x ≤ Field.spacing x
  pub spaced : {x : List ℕ} → a.alternates ≡ true → Fit a x → Field.conductor_diameter x ≤ Field.spacing x
  pub n : a.known ≡ true → In 1 3 a.n
  pub S : {x : List ℕ} → Fit a x → a.S x ≤ most_sheath_loss
  pub W : {x : List ℕ} → Fit a x → a.W x ≤ most_armour_loss
  pub S_close : {x : List ℕ} {c : Chosen} → Allowed a x c → Fit a x → Within 40000 (whole 2000) (a.S* x c) (whole (a.S x))
  pub W_close : {x : List ℕ} {c : Chosen} → Allowed a x c → Fit a x → Within 40000 (whole 2000) (a.W* x c) (whole (a.W x))

-- n

pub one_core : In 1 3 1
one_core = record { least = lit≤ tt; most = lit≤ tt }

pub three_in_range : In 1 3 3
three_in_range = record { least = lit≤ tt; most = lit≤ tt }

-- no loss at all
pub none_lost : Within 40000 (whole 2000) (whole 0) (whole 0)
none_lost = within_itself 0
