-- `rate_text::put_sheet` meets its contract: each turn appends one more number. Assumes nothing.
use Rattle.std.proofs.Common.{append-nil, append_assoc, ap, arith, get_or, length, sym, take, List, [], ◌++◌, ◌+◌, ◌<◌, ◌∙◌}
use Rattle.std.proofs.Common.{ℕ, ◌∷◌, ◌≡◌}
use Rattle.std.proofs.lemmas.List.{take_more}
use Rattle.decimals.specs.Decimal.{spaced}
use Rattle.decimals.proofs.Laws.Decimal.{spaced_append}
use Rattle.rate_text.proofs.put_sheet.Goals as goal

nothing : (text : List ℕ) → text ≡ text ++ spaced []
unfolding spaced
nothing text = sym (append-nil text)

one_more : (text xs : List ℕ) (i : ℕ) → i < length xs
    → (text ++ spaced (take i xs)) ++ spaced (get_or xs i 0 ∷ []) ≡ text ++ spaced (take (i + 1) xs)
one_more text xs i h =
    append_assoc text (spaced (take i xs)) (spaced (get_or xs i 0 ∷ []))
    ∙ ap (λ (t : List ℕ). text ++ t)
    (sym (spaced_append (take i xs) (get_or xs i 0 ∷ [])) ∙ ap spaced (sym (take_more xs i 0 h)))

pub loop-x-init : goal.loop-x-init
loop-x-init g c = (nothing c.args.out.now.bytes, omega arith)

pub loop-x-preserved : goal.loop-x-preserved
loop-x-preserved g c =
    let text = c.args.out.now.bytes in
    let next = spaced (get_or c.args.sheet c.loop-x.x-index 0 ∷ []) in (
      c.put_number.ensures.text
          ∙ ap (λ (t : List ℕ). t ++ next) c.loop-x.invariant.0
          ∙ one_more text c.args.sheet c.loop-x.x-index (omega arith),
      omega arith,
    )
