-- `sheafdawn::sheafdawn_append` meets its contract. Assumes nothing.
use Rattle.std.proofs.Common.{List, ap, eq-eqb, length, ne_eqb, sym, ℕ, ◌∙◌, ◌≡◌}
use Rattle.fields.specs.Fields.{width}
use Rattle.book_laws.specs.Book.{append_of}
use Rattle.sheafdawn.specs.Calls.{append_call, written_call}
use Rattle.sheafdawn.proofs.Outs.{written}
use Rattle.sheafdawn.proofs.sheafdawn_append.Goals as goal

through : (b : List ℕ) (used : ℕ) (x out : List ℕ) → length x ≡ width → written_call b out (append_of b used x) ≡ append_call b used x out
unfolding append_call
through b used x out is_a_case = sym (simp (eq-eqb _ _ is_a_case))

pub returns-in_default : goal.returns-in_default
unfolding append_call
returns-in_default c = simp (ne_eqb _ _ c.in_default.ensures.cases)

pub returns-then-out-ne1 : goal.returns-then-out-ne1
unfolding append_call written_call
returns-then-out-ne1 c = simp (eq-eqb _ _ c.in-Some.ensures.cases.long, ne_eqb _ _ c.if-out-ne1.true)

pub returns : goal.returns
returns c =
    let whole = c.in-Some.ensures.cases in
    let done = c.append.ensures ∙ ap (append_of _ _) whole.same in
    written _ _ _ _ c.if-out-ne1.false c.put_used.ensures.number c.put_used.ensures.used done ∙ through _ _ _ c.args.out.now whole.long
