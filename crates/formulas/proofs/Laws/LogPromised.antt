-- All that docs/RATING.md, stage 5, says of a logarithm and its two ends, as one record, and that it holds of the ends that the other
-- stages use: for every a/b from 1 to below 2^15, so for 2s/d and Di/ds with the fields' limits. Assumes nothing.
use Rattle.std.specs.Prelude.{ℕ, ◌+◌, ◌-◌, ◌*◌, ◌≤◌, ◌<◌}
use Rattle.std.proofs.Common.{add-sub_cancel, le-add_left, arith, lit≤}
use Rattle.exact.specs.Fraction.{whole, ◌+F◌, ◌*F◌, ◌≤F◌}
use Rattle.formulas.specs.Constants.{tera, ln2_low, ln2_high}
use Rattle.formulas.specs.Logarithm.{octaves, log_low, log_high, zeta, artanh_sum, artanh_rest}
use Rattle.formulas.proofs.Laws.Octaves.{Largest, octaves_largest}
use Rattle.formulas.proofs.Laws.LogRange.{octaves_most}
use Rattle.formulas.proofs.Laws.LogEndsGap.{log_gap}
use Rattle.formulas.proofs.Laws.LogEndsOrder.{log_ends_ordered}
use Rattle.formulas.proofs.Laws.LogEndsHold.{upper_end_holds, lower_end_holds}

pub record LogPromised (a b : ℕ) : Type 0 where
  -- k is the largest whole number with 2^k b ≤ a, and at most 14
  pub octaves_are : Largest a b (octaves a b)
  pub octaves_few : octaves a b ≤ 14
  -- the two ends differ by at most 100
  pub ends_ordered : log_low a b ≤ log_high a b
  pub ends_near : log_high a b ≤ log_low a b + 100
  -- k times its ln 2 end can be taken off either end: what is left is not below 0
  pub upper_has_octaves : ln2_high * octaves a b ≤ log_high a b
  pub lower_has_octaves : ln2_low * octaves a b ≤ log_low a b
  -- then for every n, T times the sum of the first n exact terms of 2 artanh ζ is at most the upper end, and T times that sum with
  -- 2ζ^(2n + 1)/((2n + 1)(1 - ζ²)) added is at least the lower end
  pub upper_holds : (n : ℕ) → whole tera *F artanh_sum (zeta a b) n ≤F whole (log_high a b - ln2_high * octaves a b)
  pub lower_holds :
      (n : ℕ) → whole (log_low a b - ln2_low * octaves a b) ≤F whole tera *F (artanh_sum (zeta a b) n +F artanh_rest (zeta a b) n)

pub log_promised : (a b : ℕ) → 0 < b → b ≤ a → a < 32768 * b → LogPromised a b
unfolding log_low log_high
log_promised a b b>0 b≤a a< =
    record {
      octaves_are = octaves_largest a b b>0 b≤a;
      octaves_few = octaves_most a b b>0 b≤a a<;
      ends_ordered = log_ends_ordered a b;
      ends_near = log_gap a b b>0 b≤a a<;
      upper_has_octaves = le-add_left _ _;
      lower_has_octaves = le-add_left _ _;
      upper_holds = λ n. rw add-sub_cancel (upper_end_holds a b b>0 b≤a n);
      lower_holds = λ n. rw add-sub_cancel (lower_end_holds a b b>0 b≤a n);
    }

-- The two logarithms of a case, within the limits of its fields and past refusal 5.

pub spacing_promised : {s d : ℕ} → 100 ≤ d → d ≤ s → s ≤ 1000000 → LogPromised (2 * s) d
spacing_promised {s} {d} d≥ d≤s s≤ = log_promised (2 * s) d (omega arith) (omega arith) (omega arith)

pub insulation_promised : {di ds : ℕ} → 100 ≤ ds → 105 * ds ≤ 100 * di → di ≤ 30000 → LogPromised di ds
insulation_promised {di} {ds} ds≥ ds≤ di≤ = log_promised di ds (omega arith) (omega arith) (omega arith)

-- Those of the worked case.

worked_spacing : LogPromised (2 * 4200) 4000
worked_spacing = spacing_promised {s = 4200} (lit≤ tt) (lit≤ tt) (lit≤ tt)

worked_insulation : LogPromised 3600 1750
worked_insulation = insulation_promised (lit≤ tt) (lit≤ tt) (lit≤ tt)
