-- `line_in_place::number::negative_at` meets its contract: digits to 2147483648 after a minus sign are a number.
-- Assumes nothing.
use Rattle.std.proofs.Common.{arith, subst}
use Rattle.line_in_place.specs.NumberAt.{NumberAt}
use Rattle.line_in_place.specs.Laws.NumberAt.{with_sign}
use Rattle.text.proofs.Digits.{opposite}
use Rattle.line_in_place.proofs.number.negative_at.Goals as goal

pub returns : goal.returns
returns c =
    let digits = c.in_ok-to.ensures in
    let negated = opposite _ _ c.wrapping_neg.ensures c.wrapping_neg.type_inv (omega (arith, digits.fits)) in
    subst (NumberAt c.args.s.now c.args.at c.in_ok-to.field-0.to) negated (with_sign c.requires c.if-s-at-ne45.false digits)
