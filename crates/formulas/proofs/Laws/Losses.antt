-- Stage 10 never gives more where a loss in the sheath or in the armour is larger: E grows with S and W, and the rating falls as E grows.
-- Assumes nothing.
use Rattle.std.specs.Prelude.{ℕ, ◌+◌, ◌*◌, ◌^◌, ◌≤◌, ◌<◌}
use Rattle.std.proofs.Common.{
  add-le-add,
  arith,
  le_refl,
  lit<,
  lt_of_lt_of_le,
  lt_of_not-le,
  mul-le-mul,
  mul-le-mul_left,
  mul-le-mul_right,
}
use Rattle.exact.specs.Rounding.{up}
use Rattle.exact.proofs.Laws.Rounding.{up_mono}
use Rattle.formulas.specs.Rating.{unit_rise, rating}
use Rattle.formulas.proofs.Laws.Current.{rating_largest}

-- a part of E: n times a sum of losses, through a thermal resistance
part_grows : (n : ℕ) {a b : ℕ} (t d : ℕ) → 0 < d → a ≤ b → up (n * a * t) d ≤ up (n * b * t) d
part_grows n t d d>0 a≤b = up_mono _ _ d>0 d>0 (mul-le-mul_right d (mul-le-mul_right t (mul-le-mul_left n a≤b)))

pub unit_rise_grows :
    (n r : ℕ) {s s' w w' : ℕ} (t1 t2 t3 t4 : ℕ) → s ≤ s' → w ≤ w' → unit_rise n r s w t1 t2 t3 t4 ≤ unit_rise n r s' w' t1 t2 t3 t4
unfolding unit_rise
unit_rise_grows n r t1 t2 t3 t4 s≤ w≤ =
    let sheath = add-le-add (le_refl r) s≤ in
    add-le-add
    (add-le-add (le_refl _) (part_grows n t2 (10 ^ 6) (lit< tt) sheath))
    (part_grows n (1000 * t3 + t4) (10 ^ 9) (lit< tt) (add-le-add sheath w≤))

pub rating_falls : (n : ℕ) {e e' : ℕ} → 0 < e → e ≤ e' → rating n e' ≤ rating n e
rating_falls n {e} {e'} e>0 e≤e' =
    let most = rating_largest n e>0 in
    let carries = rating_largest n (lt_of_lt_of_le e>0 e≤e') in
    let next : rating n e' < rating n e + 1 =
    lt_of_not-le (λ over. omega (arith, mul-le-mul (mul-le-mul over over) e≤e', carries.carried, most.no_more))
    in
    omega (arith, next)
