-- 10^12 as a plain number: relative errors are parts in it, and `wide` divides by it. The T of docs/RATING.md is `tera` in the crate
-- `formulas`: the same number, but shut, so that a proof may treat it as a letter. Assumes nothing.
use Rattle.std.specs.Prelude.{ℕ}

abbrev pub trillion : ℕ
trillion = 1000000000000
