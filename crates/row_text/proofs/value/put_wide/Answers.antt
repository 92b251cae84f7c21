-- `row_text::value::put_wide` meets its contract: what the library writes of a number of 128 bits is its decimal. Assumes nothing.
use Rattle.std.proofs.Common.{ap, lit<, lt_trans, sym, List, ◌++◌, ◌∙◌, ℕ}
use Rattle.decimals.proofs.Laws.Library.{decimal_is_written}
use Rattle.row_text.proofs.value.put_wide.Goals as goal

pub returns : goal.returns
returns g c =
    c.push_str.ensures.bytes
    ∙ ap (λ (t : List ℕ). c.args.out.now.bytes ++ t)
    (c.format.ensures.text ∙ sym (decimal_is_written c.args.x (lt_trans c.ranges.x.fits (lit< tt))))
