-- `wide::division::digit` meets its contract: the guess is right, or 1 or 2 too large, by how often v makes up for what is
-- missing. Assumes nothing.
use Rattle.std.proofs.Common.{arith, ◌<◌, ◌^◌}
use Rattle.wide.proofs.LongDivision.{owed, owed_fits, digit_is, more_than, near_guess}
use Rattle.wide.proofs.division.digit.Goals as goal
use Rattle.wide.proofs.division.digit.Goals.{Start}

owed_room : (s : Start) → owed s.args.u s.args.v < 2 ^ 64
owed_room s = owed_fits s.args.u s.args.next s.args.v s.requires

pub overflow_sub-result : goal.overflow_sub-result
overflow_sub-result c = omega (arith, more_than c.args.u c.args.next c.args.v c.requires 1 (omega arith))

pub returns-then-short-v : goal.returns-then-short-v
returns-then-short-v c = digit_is c.args.u c.args.next c.args.v c.requires 2
    (omega (arith, overflow_sub-result c))
    (omega (arith, owed_room (goal.at.returns-then-short-v c).Start))
    (omega (arith, owed_room (goal.at.returns-then-short-v c).Start))

pub returns : goal.returns
returns c = near_guess c.args.u c.args.next c.args.v c.requires c.min.result c.remaining.result
    (omega arith)
    (omega arith)
    c.remaining.ensures
