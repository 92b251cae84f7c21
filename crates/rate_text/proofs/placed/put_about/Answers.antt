-- `rate_text::placed::put_about` meets its contract: the word, the number and the text are joined, and have room. Assumes nothing.
use Rattle.std.proofs.Common.{arith}
use Rattle.splice.proofs.Laws.Put.{put_then}
use Rattle.rate_text.specs.Answers.{about_line}
use Rattle.decimals.specs.Decimal.{decimal}
use Rattle.decimals.proofs.Laws.Decimal.{count_64}
use Rattle.rate_text.proofs.placed.put_about.Goals as goal

pub put_bytes-requires : goal.put_bytes-requires
put_bytes-requires c = omega (arith, count_64 c.args.number c.ranges.number.fits)

pub returns : goal.returns
unfolding about_line
returns c =
    let k = c.args.number in
    let two = put_then _ _ _ (decimal k) (omega arith) c.put_bytes-digits.ensures c.put_decimal-rest.ensures in
    record {
      put = put_then _ _ _ _ (omega arith) two c.put_bytes.ensures;
      within = omega (arith, count_64 k c.ranges.number.fits);
    }
