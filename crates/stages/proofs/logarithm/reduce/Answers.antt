-- `stages::logarithm::reduce` meets its contract: the highest set bit of a/b is how often b can be doubled and stay at most a.
-- Assumes nothing.
use Rattle.std.proofs.Common.{ap, arith, div-mul-le_self, mul-le-mul_right, ℕ, ◌*◌, ◌+◌, ◌/◌, ◌<◌, ◌^◌, ◌≡◌, ◌≤◌}
use Rattle.std.proofs.Math.Nat.{lt-div-mul-add}
use Rattle.formulas.specs.Logarithm.{doubled}
use Rattle.formulas.proofs.Laws.Octaves.{Largest, largest_only, octaves_largest}
use Rattle.stages.proofs.logarithm.reduce.Goals as goal
use Rattle.stages.proofs.logarithm.reduce.Goals.{After-ilog2-octaves}

module _ {a b k : ℕ} (b>0 : 0 < b) (power : 2 ^ k ≤ a / b) (next : a / b < 2 * 2 ^ k) where
  largest : Largest a b k
  largest = record {
    below = omega (arith, mul-le-mul_right {m = 2 ^ k} {n = a / b} b power, div-mul-le_self a b);
    above = omega (arith, mul-le-mul_right {m = a / b + 1} {n = 2 * 2 ^ k} b (omega arith), lt-div-mul-add {a = a} {b = b} b>0);
  }

known : (c : After-ilog2-octaves) → Largest c.args.a c.args.b c.ilog2-octaves.result
known c = let log2 = c.ilog2-octaves.ensures in largest c.requires.b>0 log2.power_le log2.next_power_gt

pub returns : goal.returns
unfolding doubled
returns c = let a = c.args.a in
    let b = c.args.b in
    let largest = known (goal.at.returns c).After-ilog2-octaves in
    let count = largest_only largest (octaves_largest a b c.requires.b>0 c.requires.b_most) in
    let twice : 2 ^ c.ilog2-octaves.result * b ≡ doubled a b = ap (λ k. 2 ^ k * b) count in
    record { octaves_are = count; num_is = omega (arith, largest.below, twice); den_is = omega (arith, largest.below, twice) }
