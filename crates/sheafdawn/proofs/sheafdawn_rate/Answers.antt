-- `sheafdawn::sheafdawn_rate` meets its contract: the rating and the sheet fill a slice of 14. Assumes nothing.
use Rattle.std.proofs.Common.{List, [], ap, append-nil, arith, drop, eq-eqb, length, ne_eqb, refl, replicate, set, suc, sym, ℕ}
use Rattle.std.proofs.Common.{◌++◌, ◌-◌, ◌∙◌, ◌∷◌, ◌≡◌}
use Rattle.std.proofs.Math.Seq.{drop-length}
use borrow.Rule.Slice.PartMut.{put_mid}
use Rattle.fields.specs.Fields.{width}
use Rattle.rating.specs.Rate.{Answer, rate_of}
use Rattle.sheafdawn.specs.Calls.{call, called, rate_call}
use Rattle.sheafdawn.proofs.sheafdawn_rate.Goals as goal

told :
    (x out : List ℕ) {n : ℕ} {m : List ℕ} {a : Answer} → length x ≡ width → length out ≡ 14 → a ≡ rate_of x → n ≡ a.number →
    m ≡ a.rating ∷ a.sheet → call n m ≡ rate_call x out
unfolding rate_call called
told x out is_a_case is_14 is number_is wrote =
    rw (number_is, wrote, is) (sym (simp (eq-eqb _ _ is_a_case, eq-eqb _ _ is_14)))

-- the rating and the sheet fill the slice
filled :
    (out sheet : List ℕ) (rating : ℕ) → length out ≡ 14 →
    put_mid 1 (length (set out 0 rating) - 1) (set out 0 rating) sheet ≡ rating ∷ sheet
filled [] sheet rating is_14 = absurd (omega arith)
filled (y ∷ ys) sheet rating is_14 =
    let rest : suc (length ys) - 1 ≡ length ys = omega arith in
    ap (λ (k : ℕ). rating ∷ (sheet ++ drop k ys)) rest
    ∙ ap (λ (t : List ℕ). rating ∷ (sheet ++ t)) (drop-length ys)
    ∙ ap (λ (t : List ℕ). rating ∷ t) (append-nil sheet)

pub returns-in_default : goal.returns-in_default
unfolding rate_call
returns-in_default c = simp (ne_eqb _ _ c.in_default.ensures.cases)

pub returns-then-out-ne14 : goal.returns-then-out-ne14
unfolding rate_call called
returns-then-out-ne14 c = simp (eq-eqb _ _ c.in-Some.ensures.cases.long, ne_eqb _ _ c.if-out-ne14.true)

pub returns-in-Ok : goal.returns-in-Ok
returns-in-Ok c =
    let whole = c.in-Some.ensures.cases in
    let out = c.args.out.now in
    told _ out whole.long c.if-out-ne14.false (c.in-Ok.ensures ∙ ap rate_of whole.same) refl
    (ap (put_mid 1 _ _) c.copy_from_slice.ensures.after ∙ filled out _ _ c.if-out-ne14.false
    ∙ ap (λ (n : ℕ). n ∷ c.in-Ok.rated.sheet) c.from.ensures)

pub returns-in-Err : goal.returns-in-Err
returns-in-Err c =
    let whole = c.in-Some.ensures.cases in
    told _ c.args.out.now whole.long c.if-out-ne14.false (c.in-Err.ensures ∙ ap rate_of whole.same) c.from-in-Err.ensures
    (c.fill.ensures.after (λ y e. e) ∙ ap (λ (n : ℕ). replicate n 0) c.if-out-ne14.false)
