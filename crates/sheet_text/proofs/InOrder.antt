-- Pieces in order behind a text: none, and one more. Assumes nothing.
use Rattle.std.proofs.Common.{List, ◌++◌, ◌+◌, ◌≡◌, ◌∙◌, ℕ, add-one, ap, append-nil, append_assoc, sym}
use Rattle.sheet_text.specs.InOrder.{in_order}

pub none_yet : (text : List ℕ) (piece : ℕ → List ℕ) → text ≡ text ++ in_order piece 0
unfolding in_order
none_yet text piece = sym (append-nil text)

pub one_more : (text : List ℕ) (piece : ℕ → List ℕ) (n : ℕ) → (text ++ in_order piece n) ++ piece n ≡ text ++ in_order piece (n + 1)
unfolding in_order
one_more text piece n =
    append_assoc text (in_order piece n) (piece n) ∙ ap (λ (k : ℕ). text ++ in_order piece k) (sym (add-one n))
