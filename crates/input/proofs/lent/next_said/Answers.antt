-- `input::lent::next_said` meets its contract: of a line that the chunk has to its end it says what the line says, and the line ends before
-- the chunk's bytes do.
-- Assumes nothing.
use Rattle.std.proofs.Common.{IfSome, List, Option, Some, arith, length, length-take-le, refl, subst, take, ℕ, ◌<◌, ◌≡◌, ◌≤◌}
use Rattle.input.specs.Lent.{said_here}
use Rattle.line_in_place.specs.declared.Line.{Line}
use Rattle.line_in_place.specs.Laws.Standing.{whole_within}
use Rattle.line_in_place.specs.Standing.{standing}
use Rattle.input.proofs.lent.next_said.Goals as goal

ends_before : (here : Line) (chunk : List ℕ) (at end : ℕ) → end ≤ length chunk → Some here ≡ standing (take end chunk) at → here.to < end
ends_before here chunk at end inside whole = omega (arith, whole_within (take end chunk) at here whole, length-take-le end chunk inside)

pub overflow_add-result : goal.overflow_add-result
overflow_add-result g c = omega (arith, ends_before _ _ _ _ c.requires.inside c.in-Some.ensures)

pub returns-in-Some-clause-ready : goal.returns-in-Some-clause-ready
returns-in-Some-clause-ready g c =
    record { within = omega (arith, ends_before _ _ _ _ c.requires.inside c.in-Some.ensures); inside = c.requires.inside }

pub returns-in-Some-clause-value : goal.returns-in-Some-clause-value
unfolding said_here
returns-in-Some-clause-value g c =
    subst (λ (o : Option Line). IfSome o (λ here. said_here c.in-Some.here c.args.from ≡ said_here here c.args.from)) c.in-Some.ensures refl
