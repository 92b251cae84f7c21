-- `row_text::value::put_fraction` meets its contract: without decimals blanks alone, else the point, the digits and blanks.
-- Assumes nothing.
use Rattle.std.proofs.Common.{add-one, append_assoc, ap, lit<, refl, replicate, rules, sym, unsigned_abs}
use Rattle.std.proofs.Common.{List, [], ◌++◌, ◌+◌, ◌-◌, ◌∙◌, ◌∷◌, ◌≡◌, ℕ, ℤ, suc, zero}
use Rattle.std.proofs.lemmas.Int.{to_z-of_z}
use Rattle.decimals.specs.Decimal.{padded}
use Rattle.decimals.proofs.Laws.Parts.{padded_length}
use Rattle.row_text.specs.Columns.{to_left}
use Rattle.row_text.specs.Value.{fraction}
use Rattle.row_text.proofs.value.put_fraction.Goals as goal

no_digits : (after d : ℕ) (z : ℤ) → d ≡ 0 → replicate (after + 1) 32 ≡ fraction after d z
unfolding fraction
no_digits after zero z e = ap (λ (n : ℕ). replicate n 32) (add-one after)
no_digits after (suc d) z e = absurd (search (rules, e))

some_digits :
    (text : List ℕ) (after d : ℕ) (z : ℤ) → (d ≡ 0 → ⊥)
    → ((text ++ (46 ∷ [])) ++ padded d (unsigned_abs z)) ++ replicate (after - d) 32 ≡ text ++ fraction after d z
unfolding fraction to_left
some_digits text after zero z e = absurd (e refl)
some_digits text after (suc d) z e =
    let digits = padded (suc d) (unsigned_abs z) in
    append_assoc (text ++ (46 ∷ [])) digits (replicate (after - suc d) 32)
    ∙ append_assoc text (46 ∷ []) (digits ++ replicate (after - suc d) 32)
    ∙ ap (λ (n : ℕ). text ++ (46 ∷ (digits ++ replicate (after - n) 32))) (sym (padded_length (suc d) (unsigned_abs z)))

pub returns-then-decimals-eq0-clause-text : goal.returns-then-decimals-eq0-clause-text
returns-then-decimals-eq0-clause-text g c =
    c.put_blanks.ensures.text
    ∙ ap (λ (t : List ℕ). c.args.out.now.bytes ++ t) (no_digits c.args.digits c.args.decimals c.args.z c.if-decimals-eq0.true)

pub returns-clause-text : goal.returns-clause-text
returns-clause-text g c =
    let size : c.unsigned_abs.result ≡ unsigned_abs c.args.z = c.unsigned_abs.ensures.value ∙ search (rules, to_z-of_z) in
    let blanks = replicate c.saturating_sub.result 32 in
    c.put_blanks-2.ensures.text
    ∙ ap (λ (t : List ℕ). t ++ blanks)
    (c.put_padded.ensures.text
    ∙ ap (λ (t : List ℕ). t ++ padded c.args.decimals c.unsigned_abs.result) (c.push.ensures.ascii (lit< tt))
    ∙ ap (λ (n : ℕ). (c.args.out.now.bytes ++ (46 ∷ [])) ++ padded c.args.decimals n) size)
    ∙ ap
    (λ (n : ℕ). ((c.args.out.now.bytes ++ (46 ∷ [])) ++ padded c.args.decimals (unsigned_abs c.args.z)) ++ replicate n 32)
    c.saturating_sub.ensures
    ∙ some_digits c.args.out.now.bytes c.args.digits c.args.decimals c.args.z c.if-decimals-eq0.false
