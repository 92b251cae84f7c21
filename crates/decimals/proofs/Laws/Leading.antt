-- A number written digit by digit from the front by a fixed count of steps, where each digit takes the place of a zero in front of
-- the number: after the last step the number stands there as `decimal` has it. `put_decimal` leaves the digits to the library, and
-- these theorems hold of any that writes them so. Assumes nothing.
use Rattle.std.specs.Prelude.{List, [], ◌∷◌, ◌++◌, ◌≡◌, refl, ℕ, zero, suc, ◌+◌, ◌/◌, ◌%◌, ◌≤◌, length}
use Rattle.std.proofs.Common.{sym, ap, ap₂, ◌∙◌, arith}
use Rattle.splice.specs.Splice.{splice}
use Rattle.splice.proofs.Laws.Splice.{splice_again}
use Rattle.splice.specs.Put.{Put}
use Rattle.splice.proofs.Laws.Put.{put_as, put_then}
use Rattle.decimals.specs.Decimal.{decimal}
use Rattle.decimals.proofs.Laws.Decimal.{decimal_small, decimal_large}
use Rattle.decimals.specs.Laws.Leading.{PutLeading}

-- the digits of y in front of a further digit: none where y is 0
unfoldable pub ahead : ℕ → List ℕ
ahead zero = []
ahead (suc y) = decimal (suc y)

-- the digits of a number: those of its tenth q, none where that is 0, and its last one
decimal_last : (x q : ℕ) → x / 10 ≡ q → decimal x ≡ ahead q ++ ((x % 10 + 48) ∷ [])
unfolding ahead
decimal_last x zero e = decimal_small x (omega arith) ∙ ap (λ (d : ℕ). (d + 48) ∷ []) (omega arith)
decimal_last x (suc q) e = decimal_large x (omega arith) ∙ ap (λ (k : ℕ). decimal k ++ ((x % 10 + 48) ∷ [])) e

-- whatever byte is put into m at r next, it stands in l after the digits of y, which begin at `at`
pub record Ready (l : List ℕ) (at y : ℕ) (m : List ℕ) (r : ℕ) : Type 0 where
  pub inside : at ≤ length l
  pub next : (d : ℕ) → Put l at (ahead y ++ (d ∷ [])) (splice m r (d ∷ [])) (r + 1)

pub ready_first : (l : List ℕ) (at : ℕ) → at ≤ length l → Ready l at 0 l at
unfolding ahead
ready_first l at h = record { inside = h; next = λ d. record { place_is = refl; list_is = refl } }

-- the last digit of x, after those ahead of it
pub ready_last : {l : List ℕ} {at : ℕ} {m n : List ℕ} {p r : ℕ} (x q : ℕ) → x / 10 ≡ q → Ready l at q m p
    → Put m p ((x % 10 + 48) ∷ []) n r → Put l at (decimal x) n r
ready_last {l} {at} x q e f g =
    let h = f.next (x % 10 + 48) in
    put_as l at (sym (decimal_last x q e)) (record { place_is = g.place_is ∙ h.place_is; list_is = g.list_is ∙ h.list_is })

-- the last digit of y, after those ahead of it; where y is 0, the next byte takes its place
pub ready_next : {l : List ℕ} {at : ℕ} {m n : List ℕ} {p r : ℕ} (y q : ℕ) → y / 10 ≡ q → Ready l at q m p
    → PutLeading m p y n r → Ready l at y n r
unfolding ahead
ready_next {l} {at} {r = r} zero zero e f g =
    let with_zero = f.next 48 in
    let same : r ≡ at = omega (arith, with_zero.place_is) in
    record {
      inside = f.inside;
      next = λ d.
          record {
            place_is = ap (λ (k : ℕ). k + 1) same;
            list_is =
                ap₂ (λ (t : List ℕ) (k : ℕ). splice t k (d ∷ [])) (g.list_is ∙ with_zero.list_is) same
                ∙ splice_again l at 48 d [] f.inside;
          };
    }
ready_next zero (suc q) e f g = absurd (omega arith)
ready_next {l} {at} {n = n} {p = p} {r = r} (suc y) q e f g =
    let moved : r ≡ p + 1 = omega arith in
    let whole = ready_last (suc y) q e f (record { place_is = moved; list_is = g.list_is }) in
    let byte : (d : ℕ) → Put n r (d ∷ []) (splice n r (d ∷ [])) (r + 1) = λ d. record { place_is = refl; list_is = refl } in
    record { inside = f.inside; next = λ d. put_then l at (decimal (suc y)) (d ∷ []) f.inside whole (byte d) }
