-- `sheafdawn::sheafdawn_read` meets its contract: the case, the answer and the rating fill a slice of 32. Assumes nothing.
use Rattle.std.proofs.Common.{List, [], ap, arith, drop, eq-eqb, length, length-drop, ne_eqb, refl, replicate, set}
use Rattle.std.proofs.Common.{rules, sym, ℕ}
use Rattle.std.proofs.Common.{◌++◌, ◌+◌, ◌∙◌, ◌∷◌, ◌≡◌}
use Rattle.std.proofs.lemmas.List.{set-append_right}
use Rattle.fields.specs.Fields.{width}
use Rattle.book_laws.specs.Book.{read_of}
use Rattle.book_laws.specs.Read.{Fields, unread}
use Rattle.sheafdawn.specs.Calls.{call, called, read_call}
use Rattle.sheafdawn.proofs.sheafdawn_read.Goals as goal

told :
    (b : List ℕ) (used index : ℕ) (out : List ℕ) {n : ℕ} {m : List ℕ} {f : Fields} → length out ≡ width + 2 →
    f ≡ read_of b used index → n ≡ f.number → m ≡ f.fields → call n m ≡ read_call b used index out
unfolding read_call called
told b used index out is_long is number_is wrote = rw (number_is, wrote, is) (sym (simp (eq-eqb _ _ is_long)))

two_places : (rest : List ℕ) (answer rating : ℕ) → length rest ≡ 2 → set (set rest 0 answer) 1 rating ≡ answer ∷ rating ∷ []
two_places [] answer rating is_2 = absurd (omega arith)
two_places (x ∷ []) answer rating is_2 = absurd (omega arith)
two_places (x ∷ y ∷ []) answer rating is_2 = refl
two_places (x ∷ y ∷ z ∷ zs) answer rating is_2 = absurd (omega arith)

-- the case fills the front, and two stores the places after it
filled :
    (out case : List ℕ) (answer rating : ℕ) → length out ≡ width + 2 → length case ≡ width →
    set (set (case ++ drop width out) width answer) (width + 1) rating ≡ case ++ (answer ∷ rating ∷ [])
filled out case answer rating is_long size =
    let rest = drop width out in
    ap (λ (l : List ℕ). set l (width + 1) rating) (set-append_right case rest width width answer size (omega arith))
    ∙ set-append_right case (set rest 0 answer) width (width + 1) rating size (omega arith)
    ∙ ap (λ (l : List ℕ). case ++ l) (two_places rest answer rating (omega (arith, length-drop width out)))

pub returns-then-out : goal.returns-then-out
unfolding read_call called
returns-then-out c = simp (ne_eqb _ _ c.if-out.true)

pub returns-in-Ok : goal.returns-in-Ok
returns-in-Ok c =
    let size : length c.in-Ok.record.case ≡ width = search (rules) in
    told _ _ _ c.args.out.now c.if-out.false c.in-Ok.ensures refl (filled c.args.out.now c.in-Ok.record.case _ _ c.if-out.false size)

pub returns-in-Err : goal.returns-in-Err
unfolding unread
returns-in-Err c =
    let is_long = c.if-out.false in
    told _ _ _ c.args.out.now is_long c.in-Err.ensures c.from.ensures
    (c.fill.ensures.after (λ y e. e) ∙ ap (λ (n : ℕ). replicate n 0) is_long)
