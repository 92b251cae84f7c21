-- Digits at a place of a chunk are a number there, and so are digits after a minus sign. Assumes nothing.
use Rattle.std.proofs.Common.{List, [], ◌∷◌, ◌++◌}
use Rattle.std.specs.Prelude.{◌≡◌, ℕ, ◌+◌, ◌-◌, ◌%◌, ◌≤◌, length, get_or}
use Rattle.std.proofs.Math.Path.{ap}
use Rattle.std.proofs.Common.{◌∙◌, le_refl, arith}
use Rattle.line_in_place.specs.NumberAt.{NumberAt}
use Rattle.text.specs.Gather.{piece}
use Rattle.text.specs.Laws.Leading.{NumberIn, digits_say, word_says}
use Rattle.text.specs.Number.{is_digit, every, negated, read_number, is_numeral}
use Rattle.text.specs.Laws.Number.{every_weaker}
use Rattle.text.specs.Laws.Pieces.{piece_none, piece_more, piece_join}
use Rattle.text.specs.Laws.Words.{digit_numeral}

module _ {s : List ℕ} {at to x : ℕ} (room : at + 12 ≤ length s) where
  pub without_sign : NumberIn s at to x 4294967295 → NumberAt s at to x
  without_sign number =
      record {
        some = number.some;
        near = omega (arith, number.near);
        inside = omega (arith, number.near);
        numeral = every_weaker is_digit is_numeral digit_numeral (piece at to s) number.digits.digits;
        says = word_says number;
      }

  pub with_sign : get_or s at 0 ≡ 45 → NumberIn s (at + 1) to x 2147483648 → NumberAt s at to ((4294967296 - x) % 4294967296)
  unfolding every is_numeral is_digit read_number negated
  with_sign sign number =
      let rest = piece (at + 1) to s in
      let first : piece at (at + 1) s ≡ 45 ∷ [] =
      piece_more s at at (le_refl at) (omega arith)
      ∙ ap (λ (p : List ℕ). p ++ (get_or s at 0 ∷ [])) (piece_none s at)
      ∙ ap (λ (b : ℕ). b ∷ []) sign
      in
      let signed : piece at to s ≡ 45 ∷ rest =
      piece_join s at (at + 1) to (omega arith) (omega (arith, number.some)) ∙ ap (λ (p : List ℕ). p ++ rest) first
      in
      record {
        some = omega (arith, number.some);
        near = omega (arith, number.near);
        inside = omega (arith, number.near);
        numeral = ap (every is_numeral) signed ∙ every_weaker is_digit is_numeral digit_numeral rest number.digits.digits;
        says = ap read_number signed ∙ ap negated (digits_say number);
      }
