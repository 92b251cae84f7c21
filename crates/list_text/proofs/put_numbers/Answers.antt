-- `list_text::put_numbers` meets its contract: the three numbers and the line feed are joined. Assumes nothing.
use Rattle.std.proofs.Common.{append_assoc, ap, lit<, List, [], ◌++◌, ◌∙◌, ◌∷◌, ◌≡◌, ℕ}
use Rattle.decimals.specs.Decimal.{decimal, spaced, written}
use Rattle.decimals.proofs.Laws.Decimal.{spaced_append}
use Rattle.list_text.proofs.put_numbers.Goals as goal

whole :
    (text : List ℕ) (n a r : ℕ) →
    (((text ++ decimal n) ++ spaced (a ∷ [])) ++ spaced (r ∷ [])) ++ (10 ∷ []) ≡ text ++ (written (n ∷ a ∷ r ∷ []) ++ (10 ∷ []))
unfolding written
whole text n a r = simp (append_assoc, spaced_append (a ∷ []) (r ∷ []))

pub returns-clause-text : goal.returns-clause-text
returns-clause-text g c =
    let a = c.args in
    c.push.ensures.ascii (lit< tt)
    ∙ ap (λ (t : List ℕ). t ++ (10 ∷ []))
    (c.put_number-2.ensures.text
    ∙ ap (λ (t : List ℕ). t ++ spaced (a.rating ∷ []))
    (c.put_number.ensures.text ∙ ap (λ (t : List ℕ). t ++ spaced (a.answer ∷ [])) c.put_decimal.ensures.text))
    ∙ whole a.out.now.bytes a.number a.answer a.rating
