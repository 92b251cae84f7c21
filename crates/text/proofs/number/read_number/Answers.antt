-- `text::number::read_number` meets its contract: the first byte says which case of `read_number` holds.
-- Assumes nothing.
use Rattle.std.proofs.Common.{Bool, true, false, refl, rules, List, [], ap, drop, eqb, sym, take, ℕ, ◌∙◌, ◌∷◌, ◌≡◌}
use Rattle.std.proofs.Common.{Some, cond}
use Rattle.std.specs.Cmp.Lexicographic.{pointwise}
use Rattle.std.proofs.Math.Bool.{and-true}
use Rattle.bools.proofs.Laws.Tests.{both}
use Rattle.text.proofs.Digits.{opposite}
use Rattle.text.specs.Number.{read_digits, negated, read_number}
use Rattle.text.proofs.number.read_number.Goals as goal

-- whether the one byte of "-" is the first of the word
first_is : (w : List ℕ) (t : Bool) → pointwise eqb (take 1 w) (45 ∷ []) ≡ t
    → read_number w ≡ cond t (negated (read_digits 2147483648 (drop 1 w))) (read_digits 4294967295 w)
unfolding read_number
first_is [] true e = cc
first_is [] false e = refl
first_is (b ∷ w) true e = rw (both (eqb b 45) true e).0
first_is (b ∷ w) false e = rw (sym (and-true (eqb b 45)) ∙ e)

pub returns-in_err-read_digits-in-Some : goal.returns-in_err-read_digits-in-Some
unfolding negated
returns-in_err-read_digits-in-Some c =
    let strip = c.in-Some.ensures.cases in
    c.from_residual.ensures
    ∙ ap negated (c.in_err-read_digits-in-Some.ensures ∙ ap (read_digits 2147483648) strip.1)
    ∙ sym (first_is _ _ strip.0)

pub returns-in_ok-read_digits-in-Some : goal.returns-in_ok-read_digits-in-Some
unfolding negated
returns-in_ok-read_digits-in-Some c =
    let strip = c.in-Some.ensures.cases in
    sym (ap Some (opposite _ _ c.wrapping_neg.ensures c.wrapping_neg.type_inv (search rules)))
    ∙ ap negated (c.in_ok-read_digits-in-Some.ensures ∙ ap (read_digits 2147483648) strip.1)
    ∙ sym (first_is _ _ strip.0)

pub returns-in-None : goal.returns-in-None
returns-in-None c = c.read_digits-in-None.ensures ∙ sym (first_is _ _ c.in-None.ensures.cases)
