-- `input::Lines::next_line` meets its contract: a line feed among the chunk's bytes ends the line, what the source gives goes on with it,
-- and with no read left the line is the last.
-- Assumes nothing.
use Rattle.std.proofs.Common.{List, ◌∷◌, length, ℕ, ◌+◌, ◌-◌, ◌≤◌, ◌≡◌, ap, arith, eqb-true, false-eqb, le_refl, refl, subst, sym, ◌∙◌}
use Rattle.text.specs.Gather.{piece}
use Rattle.input.specs.Laws.Lines.{found, found_none}
use Rattle.input.specs.Laws.Stream.{Gathered, nothing_gathered, gathered_same, line_ends, goes_on, last_line, no_line}
use Rattle.input.specs.Lines.{kept_lines}
use Rattle.input.specs.Stream.{Awaits}
use Rattle.input.proofs.Lines.next_line.Given.{Over}
use Rattle.input.proofs.Lines.next_line.Goals as goal
use Rattle.input.proofs.Lines.next_line.Goals.{After-is_empty, else-loop-left-test, then-loop-left-test+in_default+then-self-eq0}

pub loop-left-init : goal.loop-left-init
loop-left-init g c =
    record {
      counted = refl;
      bound = le_refl _;
      spent = λ some. absurd (omega (arith, some, ap length c.new-line.ensures));
      gathered = λ xs awaits.
          subst (λ line. Gathered g.S.Source.remaining line c.args.self.now xs) (sym c.new-line.ensures)
          (nothing_gathered g.S.Source.remaining c.args.self.now xs awaits);
    }

pub returns-in-Some-clause-line : goal.returns-in-Some-clause-line
unfolding piece
returns-in-Some-clause-line g c xs awaits =
    let ends = line_ends _ (c.loop-left.invariant.gathered xs awaits) c.in-Some.len (found _ _ c.in-Some.ensures) _
    (record { source = refl; chunk = refl; at = refl; end = refl; reads = refl })
    in
    (ends.0, ends.1, ends.2 ∙ ap (λ (l : List ℕ). l ∷ kept_lines ends.0) (sym c.gather.ensures))

pub loop-left-preserved : goal.loop-left-preserved
unfolding piece
loop-left-preserved g c =
    let enough : c.loop-left.self.reads ≤ (c.loop-left.left - 1) + 1 = omega arith in
    record {
      counted = refl;
      bound = omega (arith, c.fill-self.ensures.within, c.fill-self.auto.chunk);
      spent = λ some. omega (arith, c.fill-self.ensures.within, c.fill-self.auto.chunk);
      gathered = λ xs awaits.
          goes_on _ (c.loop-left.invariant.gathered xs awaits) (found_none _ c.in_default.ensures) _ c.gather-in-loop-left.ensures _ refl
          c.fill-self.ensures.within c.fill-self.ensures.bytes (λ none. absurd (c.if-self-eq0.false none)) (λ some. enough);
    }

-- after the loop no read is left
module _ (g : Over) (c : After-is_empty g) where
  none_left : c.loop-left-test.self.reads ≡ 0
  none_left =
      elim c.loop-left-test.branch [
        | else-loop-left-test w ↦ ap (λ self. self.reads) w.self-is ∙ (omega arith)
        | then-loop-left-test+in_default+then-self-eq0 w ↦ ap (λ self. self.reads) w.self-is
      ]

  gathered : (xs : List ℕ) → Awaits g.S.Source.remaining c.args.self.now xs
      → Gathered g.S.Source.remaining c.loop-left-test.line.items c.loop-left-test.self xs
  unfolding piece
  gathered xs awaits =
      let before = c.loop-left.invariant.gathered xs awaits in
      elim c.loop-left-test.branch [
        | else-loop-left-test w ↦ gathered_same g.S.Source.remaining (ap (λ line. line.items) w.line-is) w.self-is before
        | then-loop-left-test+in_default+then-self-eq0 w ↦
            let end = w.fill-self.ensures.end w.if-self-eq0.true (omega (arith, w.fill-self.auto.chunk)) in
            gathered_same g.S.Source.remaining (ap (λ line. line.items) w.line-is) w.self-is
            (goes_on g.S.Source.remaining before (found_none _ w.in_default.ensures) _ w.gather-in-loop-left.ensures _ refl
            w.fill-self.ensures.within w.fill-self.ensures.bytes (λ none. end) (λ some. absurd (omega arith)))
      ]

pub returns-then-is_empty-clause-line : goal.returns-then-is_empty-clause-line
returns-then-is_empty-clause-line g c xs awaits =
    let s = (goal.at.returns-then-is_empty-clause-line g c).After-is_empty in
    no_line g.S.Source.remaining (gathered g s xs awaits) (none_left g s) (omega (arith, eqb-true _ _ (sym c.if-is_empty.ensures)))

pub returns-else-is_empty-clause-line : goal.returns-else-is_empty-clause-line
returns-else-is_empty-clause-line g c xs awaits =
    let s = (goal.at.returns-else-is_empty-clause-line g c).After-is_empty in
    last_line g.S.Source.remaining (gathered g s xs awaits) (none_left g s) (omega (arith, false-eqb _ _ c.if-is_empty.ensures))
