-- A place behind the last field is that of no arrangement, and neither outside limits nor stray. Assumes nothing.
use Rattle.std.specs.Prelude.{◌≡◌, false, [], List, ℕ, ◌≤◌, ◌&&◌, not, eqb}
use Rattle.std.proofs.Common.{ap, le-ltb}
use Rattle.std.specs.List.{list_any}
use Rattle.std.proofs.Math.ListN.{get_or-eq_default}
use Rattle.fields.specs.Fields as Field
use Rattle.field_limits.specs.Limits.{Limits, plain, rows, row}
use Rattle.field_limits.specs.Marked.{has, allowed, outside, unused, stray}

row_behind : (i : ℕ) → 30 ≤ i → row i ≡ plain 0 0 []
unfolding row
row_behind i h = get_or-eq_default rows (plain 0 0 []) h

pub has_behind : (x : List ℕ) (i : ℕ) → 30 ≤ i → has x i ≡ false
unfolding has
has_behind x i h = ap (λ (r : Limits). list_any (λ k. eqb k (Field.arrangement x)) r.arrangements) (row_behind i h)

pub outside_behind : (x : List ℕ) (i : ℕ) → 30 ≤ i → outside x i ≡ false
unfolding outside
outside_behind x i h = ap (λ t. t && not (allowed x i)) (has_behind x i h)

pub stray_behind : (x : List ℕ) (i : ℕ) → 30 ≤ i → stray x i ≡ false
unfolding stray
stray_behind x i h = ap (λ t. t && unused x i && not (eqb (Field.word x i) 0)) (le-ltb i 30 h)
