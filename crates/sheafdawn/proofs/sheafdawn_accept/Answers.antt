-- `sheafdawn::sheafdawn_accept` meets its contract: the count, the note's length and the record fill a slice of 3. Assumes nothing.
use Rattle.std.proofs.Common.{List, [], ap, eq-eqb, length, ne_eqb, refl, sym, ℕ, ◌∙◌, ◌∷◌, ◌≡◌}
use Rattle.book_laws.specs.Accept.{Acceptance, unaccepted}
use Rattle.book_laws.specs.Book.{accept_of}
use Rattle.sheafdawn.specs.Calls.{accept_call, call, called}
use Rattle.sheafdawn.proofs.sheafdawn_accept.Goals as goal

told :
    (b : List ℕ) (used : ℕ) (out : List ℕ) {n : ℕ} {m : List ℕ} {a : Acceptance} → length out ≡ 3 → a ≡ accept_of b used →
    n ≡ a.number → m ≡ a.count ∷ a.note ∷ a.named ∷ [] → call n m ≡ accept_call b used out
unfolding accept_call called
told b used out is_3 is number_is wrote = rw (number_is, wrote, is) (sym (simp (eq-eqb _ _ is_3)))

pub returns-then-out-ne3 : goal.returns-then-out-ne3
unfolding accept_call called
returns-then-out-ne3 c = simp (ne_eqb _ _ c.if-out-ne3.true)

pub returns-in-Ok : goal.returns-in-Ok
returns-in-Ok c = told _ _ c.args.out.now c.if-out-ne3.false c.in-Ok.ensures refl c.copy_from_slice.ensures.after

pub returns-in-Err : goal.returns-in-Err
unfolding unaccepted
returns-in-Err c =
    told _ _ c.args.out.now c.if-out-ne3.false c.in-Err.ensures c.from.ensures
    (c.copy_from_slice-in-Err.ensures.after ∙ ap (λ (k : ℕ). 0 ∷ 0 ∷ k ∷ []) c.named_by.ensures)
