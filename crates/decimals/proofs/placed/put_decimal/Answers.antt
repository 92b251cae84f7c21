-- `decimals::placed::put_decimal` meets its contract: what the library writes of a number of 64 bits is its decimal, and the slice
-- has it at the place. Assumes nothing.
use Rattle.std.proofs.Common.{ap, append_assoc, arith, drop, drop-drop, length, lit<, lt_trans, sym, take, List, ℕ, ◌++◌, ◌+◌, ◌≡◌, ◌∙◌}
use borrow.Rule.Slice.PartMut.{put_mid}
use Rattle.splice.specs.Splice.{splice}
use Rattle.decimals.specs.Decimal.{decimal}
use Rattle.decimals.proofs.Laws.Library.{decimal_is_written}
use Rattle.decimals.proofs.placed.put_decimal.Goals as goal

-- a part of a slice that was written over
part_put : (l : List ℕ) (at k : ℕ) {us vs : List ℕ} → us ≡ vs → length vs ≡ k → put_mid at k l us ≡ splice l at vs
unfolding splice
part_put l at k {us} {vs} is size =
    ap (put_mid at k l) is
    ∙ ap (λ (t : List ℕ). take at l ++ (vs ++ t)) (drop-drop k at l ∙ ap (λ (n : ℕ). drop (at + n) l) (sym size))
    ∙ sym (append_assoc (take at l) vs (drop (at + length vs) l))

pub returns : goal.returns
returns c =
    let a = c.args in
    let digits = c.as_bytes-digits in
    let written : digits.result.now ≡ decimal a.x =
    digits.ensures.value ∙ c.format.ensures.text ∙ sym (decimal_is_written a.x (lt_trans c.ranges.x.fits (lit< tt)))
    in
    record {
      place_is = ap (λ (t : List ℕ). a.at + length t) written;
      list_is = part_put _ _ _ (c.copy_from_slice.ensures.after ∙ written) (omega (arith, ap length written));
    }
