-- A number whose digits are written in two parts: the front ones, then the last n with their zeros. Together they are the number's digits.
-- `put_decimal` leaves the digits to the library, and these theorems hold of any that writes them so. Assumes nothing.
use Rattle.std.specs.Prelude.{List, ◌≡◌, refl, ℕ, zero, suc, ◌+◌, ◌/◌, ◌%◌, ◌^◌, ◌≤◌, length}
use Rattle.std.proofs.Common.{sym, ap, ◌∙◌, add_assoc, add-one, length-append}
use Rattle.splice.specs.Put.{Put}
use Rattle.splice.proofs.Laws.Put.{put_as, put_then}
use Rattle.decimals.specs.Decimal.{decimal, padded, PutPadded}
use Rattle.decimals.proofs.Laws.Decimal.{padded_split, decimal_split}

pub padded_length : (n x : ℕ) → length (padded n x) ≡ n
unfolding padded
padded_length zero x = refl
padded_length (suc n) x = length-append (padded n (x / 10)) _ ∙ ap (λ (k : ℕ). k + 1) (padded_length n (x / 10)) ∙ add-one n

as_put : (l : List ℕ) (at n x : ℕ) {m : List ℕ} {r : ℕ} → PutPadded l at n x m r → Put l at (padded n x) m r
as_put l at n x h =
    record { place_is = h.place_is ∙ ap (λ (k : ℕ). at + k) (sym (padded_length n x)); list_is = h.list_is }

module _ (l : List ℕ) (at : ℕ) (inside : at ≤ length l) {a b : List ℕ} {p r : ℕ} (n x : ℕ) where
  pub padded_then : (m : ℕ) → PutPadded l at m (x / 10 ^ n) a p → PutPadded a p n (x % 10 ^ n) b r → PutPadded l at (m + n) x b r
  padded_then m front last =
      let both = put_then l at _ _ inside (as_put l at m (x / 10 ^ n) front) (as_put a p n (x % 10 ^ n) last) in
      record {
        place_is = last.place_is ∙ ap (λ (k : ℕ). k + n) front.place_is ∙ add_assoc at m n;
        list_is = (put_as l at (sym (padded_split m n x)) both).list_is;
      }

  pub decimal_then : 10 ^ n ≤ x → Put l at (decimal (x / 10 ^ n)) a p → PutPadded a p n (x % 10 ^ n) b r → Put l at (decimal x) b r
  decimal_then large front last =
      put_as l at (sym (decimal_split n x large)) (put_then l at _ _ inside front (as_put a p n (x % 10 ^ n) last))
