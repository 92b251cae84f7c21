-- `rate_text::put_numbers` meets its contract: the number, the rating, the sheet and the line feed are joined. Assumes nothing.
use Rattle.std.proofs.Common.{append_assoc, ap, ap₂, lit<, List, [], ◌++◌, ◌∙◌, ◌∷◌, ◌≡◌, ℕ}
use Rattle.decimals.specs.Decimal.{decimal, spaced, written}
use Rattle.decimals.proofs.Laws.Decimal.{spaced_append}
use Rattle.rate_text.specs.Answers.{text_of}
use Rattle.rate_text.proofs.put_numbers.Goals as goal

whole : (text : List ℕ) (n r : ℕ) (s : List ℕ)
    → (((text ++ decimal n) ++ spaced (r ∷ [])) ++ spaced s) ++ (10 ∷ []) ≡ text ++ text_of (record { number = n; rating = r; sheet = s })
unfolding text_of written
whole text n r s = simp (append_assoc, spaced_append (r ∷ []) s)

pub returns-clause-text : goal.returns-clause-text
returns-clause-text g c =
    let a = c.args in
    c.push.ensures.ascii (lit< tt)
    ∙ ap (λ (t : List ℕ). t ++ (10 ∷ []))
    (c.put_sheet.ensures.text
    ∙ ap (λ (t : List ℕ). t ++ spaced a.sheet)
    (c.put_number.ensures.text ∙ ap (λ (t : List ℕ). t ++ spaced (c.from-2.result ∷ [])) c.put_decimal.ensures.text))
    ∙ whole a.out.now.bytes c.from.result c.from-2.result a.sheet
    ∙ ap₂ (λ (n r : ℕ). a.out.now.bytes ++ text_of (record { number = n; rating = r; sheet = a.sheet })) c.from.ensures c.from-2.ensures
