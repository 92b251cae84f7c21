-- The library writes a number of up to 128 bits as `decimal` has it. Assumes nothing.
use Rattle.std.proofs.Common.{ap, arith, length, length-append, [], ◌∷◌, ◌++◌, ◌≡◌, ◌∙◌, ℕ, suc, ◌+◌, ◌/◌, ◌%◌, ◌<◌, ◌≤◌, ◌^◌}
use Rattle.std.specs.Fmt.{decimal as written}
use Rattle.std.proofs.lemmas.Fmt.{AppendsLastDigit, decimal_by_steps_wide, decimal_from_appends_wide}
use Rattle.decimals.specs.Decimal.{digits, decimal}
use Rattle.decimals.proofs.Laws.Decimal.{digits_small, digits_large}

by_last_digit : AppendsLastDigit digits
by_last_digit =
    record {
      one = λ k n h. digits_small k n h ∙ ap (λ (d : ℕ). d ∷ []) (omega arith);
      more = λ k n h. digits_large k n h ∙ ap (λ (d : ℕ). digits k (n / 10) ++ (d ∷ [])) (omega arith);
    }

-- a number has at most as many digits as itself and one
written_short : (x : ℕ) → x < 10 ^ 64 → length (written x) ≤ suc x
written_short =
    decimal_by_steps_wide (λ n ds. length ds ≤ suc n) (λ n small. omega arith)
    (λ n ds large short. omega (arith, short, length-append ds ((48 + n % 10) ∷ [])))

pub decimal_is_written : (x : ℕ) → x < 10 ^ 64 → decimal x ≡ written x
unfolding decimal
decimal_is_written x h = decimal_from_appends_wide digits by_last_digit (suc x) x h (written_short x h)
