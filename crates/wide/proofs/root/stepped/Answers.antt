-- `wide::root::stepped` meets its contract: Newton's step comes to the root or above, and so does the largest u32.
-- Assumes nothing.
use Rattle.std.proofs.Common.{arith, min, subst, ℕ, ◌*◌, ◌+◌, ◌<◌, ◌^◌, ◌≡◌, ◌≤◌}
use Rattle.std.proofs.Math.Decide.{dec_le}
use Rattle.wide.proofs.Newton.{step_above}
use Rattle.wide.proofs.root.stepped.Goals as goal

capped : (x r : ℕ) → x < 2 ^ 64 → x < (r + 1) * (r + 1) → x < (min r 4294967295 + 1) * (min r 4294967295 + 1)
capped x r small above = either (dec_le r 4294967295)
  where
    at : {k : ℕ} → k ≡ min r 4294967295 → x < (k + 1) * (k + 1) → x < (min r 4294967295 + 1) * (min r 4294967295 + 1)
    at e = subst (λ (k : ℕ). x < (k + 1) * (k + 1)) e

    either : Dec (r ≤ 4294967295) → x < (min r 4294967295 + 1) * (min r 4294967295 + 1)
    either (yes h) = at {k = r} (omega arith) above
    either (no f) = at {k = 4294967295} (omega (arith, f)) (omega arith)

pub returns : goal.returns
returns c = record {
  r_below = omega arith;
  above =
      subst (λ (k : ℕ). c.args.x < (k + 1) * (k + 1)) (omega arith)
      (capped c.args.x _ (omega arith) (step_above c.args.x c.args.g (omega arith)));
}
