-- `input::Lines::next_said` meets its contract: a line that is read whole stands among the chunk's bytes that are still to come, and any
-- other is the next line, of which what is kept decides what it says.
-- Assumes nothing.
use Rattle.std.proofs.Common.{[], ◌∷◌, ◌+◌, ◌≡◌, ap, arith, refl, subst, sym, ◌∙◌}
use Rattle.std.specs.Iterator.{YieldsFirstBy}
use Rattle.input.specs.Lines.{said_lines}
use Rattle.input.specs.Laws.Lines.{first_says, none_says}
use Rattle.input.specs.Laws.Standing.{stands}
use Rattle.input.specs.Laws.Stream.{line_ends, nothing_gathered}
use Rattle.text.specs.Line.{read_line}
use Rattle.text.specs.Laws.Gather.{start_decides}
use Rattle.input.proofs.Lines.next_said.Goals as goal

pub overflow_add-self : goal.overflow_add-self
overflow_add-self g c =
    let line = stands _ _ _ _ c.in-Some.ensures c.args.self.now.within in
    omega (arith, line.inside, c.args.self.now.inside)

pub invariant_of-self : goal.invariant_of-self
invariant_of-self g c =
    let line = stands _ _ _ _ c.in-Some.ensures c.args.self.now.within in
    record { within = omega (arith, line.inside); inside = c.args.self.now.inside }

pub returns-in-Some-clause-progress : goal.returns-in-Some-clause-progress
returns-in-Some-clause-progress g c =
    let line = stands _ _ _ _ c.in-Some.ensures c.args.self.now.within in
    omega (arith, line.place, line.inside)

pub returns-in-Some-clause-said : goal.returns-in-Some-clause-said
returns-in-Some-clause-said g c xs awaits =
    let line = stands _ _ _ _ c.in-Some.ensures c.args.self.now.within in
    let after : c.in-Some.line.to + 1 ≡ c.args.self.now.at + (line.size + 1) = omega (arith, line.place) in
    let next = line_ends _ (nothing_gathered _ c.args.self.now xs awaits) line.size line.ends _
    (record { source = refl; chunk = refl; at = after; end = refl; reads = refl })
    in
    let says = ap (λ said. said ∷ said_lines next.0) (start_decides _ ∙ sym line.says) in
    (next.0, next.1, first_says xs next.0 _ next.2 ∙ says)

pub returns-in_err-line-clause-said : goal.returns-in_err-line-clause-said
returns-in_err-line-clause-said g c xs awaits =
    let next = c.in_err-line.ensures.line xs awaits in
    let says : (said_lines xs ≡ []) × (said_lines next.0 ≡ []) = (none_says xs next.2.0, none_says next.0 next.2.1) in
    (next.0, next.1, subst (λ r. YieldsFirstBy (λ said. said) said_lines xs r next.0) (sym c.from_residual.ensures) says)

pub returns-clause-said : goal.returns-clause-said
returns-clause-said g c xs awaits =
    let next = c.in_ok-line.ensures.line xs awaits in
    let says = ap (λ said. said ∷ said_lines next.0) (sym (c.read_line.ensures ∙ ap read_line c.deref.ensures.0)) in
    (next.0, next.1, first_says xs next.0 _ next.2 ∙ says)
