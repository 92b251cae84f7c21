-- `decimals::put_decimal` meets its contract: what the library writes of a number of 64 bits is its decimal. Assumes nothing.
use Rattle.std.proofs.Common.{ap, arith, lit<, lt_trans, sym, List, ◌++◌, ◌∙◌, ℕ}
use Rattle.decimals.proofs.Laws.Library.{decimal_is_written}
use Rattle.decimals.proofs.put_decimal.Goals as goal

pub returns : goal.returns
returns g c =
    record {
      text =
          c.push_str.ensures.bytes
          ∙ ap (λ (t : List ℕ). c.args.out.now.bytes ++ t)
          (c.format.ensures.text ∙ sym (decimal_is_written c.args.x (lt_trans c.ranges.x.fits (lit< tt))));
      within = omega (arith, c.push_str.ensures.len, c.format.ensures.fits);
    }
