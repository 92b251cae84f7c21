-- The number that two limbs stand for. Assumes nothing.
use Rattle.std.specs.Prelude.{ℕ, ◌+◌, ◌*◌, ◌^◌}
use Rattle.wide.specs.declared.limbs.Wide.{Wide}

unfoldable pub value : Wide → ℕ
value w = w.hi * 2 ^ 64 + w.lo
