-- `text::number::number_in` meets its contract: leading digits that pass the test are a number of at most the limit, which fits 32 bits.
-- Assumes nothing.
use Rattle.std.proofs.Common.{arith}
use Rattle.text.specs.Laws.Leading.{NumberIn, number_in}
use Rattle.text.proofs.number.number_in.Goals as goal
use Rattle.text.proofs.number.number_in.Goals.{Else-not-is_number}

number : (c : Else-not-is_number)
    → let digits = c.leading_digits-to.result in
    NumberIn c.args.s.now c.args.from digits.to digits.value c.args.limit
number c = number_in _ c.leading_digits-to.ensures c.is_number.ensures c.if-not-is_number.false

pub overflow_cast-result : goal.overflow_cast-result
overflow_cast-result c = omega (arith, (number (goal.at.overflow_cast-result c).Else-not-is_number).fits)

pub returns : goal.returns
returns c = number (goal.at.returns c).Else-not-is_number
