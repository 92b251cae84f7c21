-- How large a factor and a loss are, so that the sums that it stands in fit. Assumes nothing.
use Rattle.std.specs.Prelude.{ℕ, ◌*◌, ◌^◌, ◌≤◌}
use Rattle.std.proofs.Common.{le_trans, lit≤}
use Rattle.std.proofs.Math.Nat.{mul-le-mul}
use Rattle.implied.specs.Implied.{factor, loss}
use Rattle.implied.proofs.Laws.Nearest.{nearest_at_most_whole, nearest_most}

-- a loss is at most 2^75: I² r is at most 2^128, which is below 2^75 times 10^16
pub loss_small : (I r : ℕ) → I ≤ 2 ^ 32 → r ≤ 2 ^ 64 → loss I r ≤ 2 ^ 75
unfolding loss
loss_small I r small-I small-r =
    let product : I * I * r ≤ 2 ^ 32 * 2 ^ 32 * 2 ^ 64 = mul-le-mul (mul-le-mul small-I small-I) small-r in
    nearest_most (I * I * r) 10000000000000000 (2 ^ 75) (lit≤ tt) (le_trans product (lit≤ tt))

-- a factor is at most what is divided
pub factor_small : (s r : ℕ) → s ≤ 2 ^ 64 → factor s r ≤ 2 ^ 84
unfolding factor
factor_small s r small =
    le_trans (nearest_at_most_whole (s * 1000000) r) (le_trans (mul-le-mul small (lit≤ {n = 2 ^ 20} tt)) (lit≤ tt))
