-- `decimals::placed::put_number` meets its contract: the blank and the digits, at most 20, are joined. Assumes nothing.
use Rattle.std.proofs.Common.{[], arith, ◌∷◌}
use Rattle.splice.proofs.Laws.Put.{put_as, put_then}
use Rattle.decimals.specs.Decimal.{decimal}
use Rattle.decimals.proofs.Laws.Decimal.{count_64, spaced_one}
use Rattle.decimals.proofs.placed.put_number.Goals as goal

pub returns : goal.returns
returns c =
    let x = c.args.x in
    let both = put_then _ _ (32 ∷ []) (decimal x) (omega arith) c.put_byte-digits.ensures c.put_decimal.ensures in
    record { put = put_as _ _ (spaced_one x) both; within = omega (arith, count_64 x c.ranges.x.fits) }
