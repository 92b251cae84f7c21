-- Each law of this crate that has premises, applied to numbers, so that its premises are seen to be met. Assumes nothing.
use Rattle.std.specs.Prelude.{◌≡◌, refl, ℕ, ◌+◌, ◌*◌, ◌≤◌, ◌<◌}
use Rattle.std.proofs.Common.{lit<, lit≤}
use Rattle.exact.specs.Rounding.{up, down}
use Rattle.exact.proofs.Laws.Rounding.{up_above, up_close, up_only, down_close, down_only, up_least, down_most, up_least_below}
use Rattle.exact.proofs.Laws.Rounding.{down_most_above, up_mono, down_mono, up_exact, down_exact, up_rest, down_rest, down_le_up}
use Rattle.exact.proofs.Laws.Rounding.{up_le_suc_down, up_pos, up_up, up_scaled}
use Rattle.exact.specs.Root.{IsRoot}
use Rattle.exact.proofs.Laws.Root.{root_only, square_cancel_<}
use Rattle.exact.specs.Fraction.{◌over◌, whole, ◌+F◌, ◌*F◌, ◌/F◌, reciprocal, ◌≤F◌, ◌<F◌, ◌≃F◌}
use Rattle.exact.proofs.Laws.Fraction.{closed≤, ≃F_refl, ≤F_refl, ≤F_trans, <F-≤F_trans, ≤F-<F_trans, <F→≤F, ≃F→≤F, ≃F_sym, +F_mono}
use Rattle.exact.proofs.Laws.Fraction.{+F_mono_<, *F_mono, *F_mono_<, reciprocal_anti, *F-+F, +F-≃F, over≤up, up<over, down≤over, over<down}
use Rattle.exact.proofs.Laws.Fraction.{whole_mono}
use Rattle.exact.specs.Error.{parts, Within}
use Rattle.exact.proofs.Laws.Error.{within_refl, within_weaken, within_trans, within_absorb, within_sum, within_times, within_product}
use Rattle.exact.proofs.Laws.Error.{within_reciprocal, within_saturate, within_relative_product, within_same, within_scale}
use Rattle.exact.proofs.Laws.Error.{within_relative_reciprocal, within_plus}
use Rattle.exact.proofs.Laws.RoundingError.{within_up, within_down, within_round, within_round_down, within_up_after, within_up_over}
use Rattle.exact.proofs.Laws.RoundingError.{within_round_over}

seven_thirds_up : (7 ≤ up 7 3 * 3) × (up 7 3 * 3 < 7 + 3) × (up 7 3 ≡ 3) × (up 7 3 ≤ 3) × (0 < up 7 3) × (up (2 * 3 + 1) 3 ≡ 2 + 1)
seven_thirds_up = (
  up_above 7 (lit< tt),
  up_close 7 (lit< tt),
  up_only 7 3 3 (lit≤ tt) (lit< tt),
  up_least 7 3 (lit< tt) (lit≤ tt),
  up_pos (lit< tt) (lit< tt),
  up_rest 2 {r = 1} {b = 3} (lit< tt) (lit< tt),
)

seven_thirds_bounds : (3 ≤ up 7 3) × (down 7 3 ≤ 2)
seven_thirds_bounds = (up_least_below 7 3 (lit< tt) (lit< tt), down_most_above 7 2 (lit< tt) (lit< tt))

seven_thirds_down : (7 < down 7 3 * 3 + 3) × (down 7 3 ≡ 2) × (2 ≤ down 7 3) × (down (2 * 3 + 1) 3 ≡ 2)
seven_thirds_down =
    (down_close 7 (lit< tt), down_only 7 3 2 (lit≤ tt) (lit< tt), down_most 7 2 (lit< tt) (lit≤ tt), down_rest 2 {r = 1} {b = 3} (lit< tt))

-- 7/3 ≤ 5/2, (20/3)/2 = 20/6, and 14/6 = 7/3
rounding_orders :
    (up 7 3 ≤ up 5 2) × (down 7 3 ≤ down 5 2) × (up (2 * 3) 3 ≡ 2) × (down (2 * 3) 3 ≡ 2) × (down 7 3 ≤ up 7 3) × (up 7 3 ≤ down 7 3 + 1)
    × (up (up 20 3) 2 ≡ up 20 (3 * 2)) × (up (2 * 7) (2 * 3) ≡ up 7 3)
rounding_orders = (
  up_mono 7 5 (lit< tt) (lit< tt) (lit≤ tt),
  down_mono 7 5 (lit< tt) (lit< tt) (lit≤ tt),
  up_exact 2 {b = 3} (lit< tt),
  down_exact 2 {b = 3} (lit< tt),
  down_le_up 7 (lit< tt),
  up_le_suc_down 7 (lit< tt),
  up_up 20 (lit< tt) (lit< tt),
  up_scaled 2 7 {b = 3} (lit< tt) (lit< tt),
)

ten_root : IsRoot 10 3
ten_root = record { below = lit≤ tt; above = lit< tt }

roots : (◌≡◌ {A = ℕ} 3 3) × (3 < 4)
roots = (root_only ten_root ten_root, square_cancel_< 3 4 (lit< tt))

third<half : (1 over 3) <F (1 over 2)
third<half = record { left = lit< tt; right = lit< tt; across = lit< tt }

third≤half : (1 over 3) ≤F (1 over 2)
third≤half = <F→≤F third<half

half≃ : (1 over 2) ≃F (2 over 4)
half≃ = record { left = lit< tt; right = lit< tt; across = refl }

orders :
    ((1 over 3) ≤F (2 over 4)) × ((1 over 3) <F (1 over 2)) × ((1 over 3) <F (1 over 2)) × ((2 over 4) ≤F (1 over 2))
orders = (
  ≤F_trans third≤half (≃F→≤F half≃),
  <F-≤F_trans third<half (≤F_refl (1 over 2) (lit< tt)),
  ≤F-<F_trans (≤F_refl (1 over 3) (lit< tt)) third<half,
  ≃F→≤F (≃F_sym half≃),
)

operations :
    ((1 over 3) +F (1 over 3) ≤F (1 over 2) +F (1 over 2)) × ((1 over 3) +F (1 over 3) <F (1 over 2) +F (1 over 2))
    × ((1 over 3) *F (1 over 3) ≤F (1 over 2) *F (1 over 2)) × ((1 over 3) *F (1 over 2) <F (1 over 2) *F (1 over 2))
    × (reciprocal (1 over 2) ≤F reciprocal (1 over 3))
    × ((1 over 2) *F ((1 over 3) +F (1 over 3)) ≃F (1 over 2) *F (1 over 3) +F (1 over 2) *F (1 over 3))
    × ((1 over 3) +F (1 over 2) ≃F (1 over 3) +F (2 over 4))
operations = (
  +F_mono third≤half third≤half,
  +F_mono_< third<half third≤half,
  *F_mono third≤half third≤half,
  *F_mono_< third<half (lit< tt) (lit< tt),
  reciprocal_anti (lit< tt) third≤half,
  *F-+F (1 over 2) (1 over 3) (1 over 3) (lit< tt) (lit< tt) (lit< tt),
  +F-≃F (1 over 3) (lit< tt) half≃,
)

rounded_fractions :
    ((7 over 3) ≤F whole (up 7 3)) × (whole (up 7 3) <F (7 over 3) +F whole 1) × (whole (down 7 3) ≤F (7 over 3))
    × ((7 over 3) <F whole (down 7 3) +F whole 1)
rounded_fractions = (over≤up 7 (lit< tt), up<over 7 (lit< tt), down≤over 7 (lit< tt), over<down 7 (lit< tt))

-- 7/3 and the whole numbers beside it, 2 and 3

above : Within 0 (whole 1) (7 over 3) (whole (up 7 3))
above = within_up 7 (lit< tt)

beneath : Within 0 (whole 1) (whole (down 7 3)) (7 over 3)
beneath = within_down 7 (lit< tt)

one≤two : whole 1 ≤F whole 2
one≤two = whole_mono (lit≤ tt)

errors :
    Within 0 (whole 0) (whole 1) (whole 1) × Within 5 (whole 2) (7 over 3) (whole (up 7 3))
    × Within (0 + 0) (whole 1 +F whole 1) (whole (down 7 3)) (whole (up 7 3))
    × Within 0 (whole 1 +F whole 1) ((7 over 3) +F (7 over 3)) (whole (up 7 3) +F whole (up 7 3))
    × Within 0 (whole 1 *F whole 2) ((7 over 3) *F whole 1) (whole (up 7 3) *F whole 1)
    × Within 0 (whole 1) ((7 over 3) +F whole 2) (whole (up 7 3) +F whole 2)
errors = (
  within_refl (≤F_refl (whole 1) (lit< tt)),
  within_weaken (lit≤ tt) one≤two above,
  within_trans beneath above,
  within_sum above above,
  within_times one≤two above,
  within_plus (whole 2) (lit< tt) above,
)

-- 1 is at most 4 × 10^11 parts in 10^12 of 3
absorbed : Within (0 + 400000000000) (whole 0) (7 over 3) (whole (up 7 3))
unfolding up parts ◌*F◌
absorbed = within_absorb 400000000000 (closed≤ tt) above

multiplied :
    Within (0 + 0) (whole 1 *F whole 3 +F whole 1 *F whole 3) ((7 over 3) *F (7 over 3)) (whole (up 7 3) *F whole (up 7 3))
unfolding up
multiplied =
    within_product
    (closed≤ tt)
    (closed≤ tt)
    above
    above

inverted : Within 0 (whole 1 /F ((7 over 3) *F whole (up 7 3))) (reciprocal (whole (up 7 3))) (reciprocal (7 over 3))
inverted = within_reciprocal (lit< tt) above

saturated :
    Within 0 (whole 1 /F whole 960) ((7 over 3) /F (whole 960 +F whole 4 *F (7 over 3)))
    (whole (up 7 3) /F (whole 960 +F whole 4 *F whole (up 7 3)))
saturated = within_saturate (lit< tt) (≤F_refl (whole 960) (lit< tt)) (≤F_refl (whole 4) (lit< tt)) above

rounded_on :
    Within (0 + 0) (whole 0) (whole 7 *F whole 7) (whole 7 *F whole 7) × Within 0 (whole 0 +F whole 1) (7 over 3) (whole (up 7 3))
    × Within 0 (whole 0 +F (1 over 2)) (7 over 3 * 2) (up 7 3 over 2)
    × Within (0 + 400000000000) (whole 0) (7 over 3 * 2) (up 7 3 over 2)
unfolding up
rounded_on = (
  within_relative_product (within_refl (≤F_refl (whole 7) (lit< tt))) (within_refl (≤F_refl (whole 7) (lit< tt))),
  within_up_after (lit< tt) (within_refl (≤F_refl (7 over 3) (lit< tt))),
  within_up_over {b = 3} (lit< tt) (lit< tt) (within_refl (≤F_refl (7 over 3 * 2) (lit< tt))),
  within_round_over 400000000000 {b = 3} (lit< tt) (lit< tt) (lit≤ tt) (within_refl (≤F_refl (7 over 3 * 2) (lit< tt))),
)

-- the laws of relative errors alone, and the same values written otherwise
sevens : Within 0 (whole 0) (7 over 1) (7 over 1)
sevens = within_refl (≤F_refl (7 over 1) (lit< tt))

relative :
    Within 0 (whole 0) (14 over 2) (7 over 1)
    × Within 0 (whole 0) (whole 2 *F (7 over 1)) (whole 2 *F (7 over 1))
    × Within 400000000000 (whole 0) (7 over 3) (whole 3)
    × Within 500000000000 (whole 0) (whole 2) (7 over 3)
    × Within 0 (whole 0) (reciprocal (7 over 1)) (reciprocal (7 over 1))
unfolding up down
relative = (
  within_same (record { left = lit< tt; right = lit< tt; across = refl }) (≃F_refl (7 over 1) (lit< tt)) sevens,
  within_scale (whole 2) (lit< tt) sevens,
  within_round 400000000000 {a = 7} {b = 3} (lit< tt) (lit≤ tt) (within_refl (≤F_refl (7 over 3) (lit< tt))),
  within_round_down 500000000000 7 {b = 3} (lit< tt) (lit≤ tt),
  within_relative_reciprocal (lit< tt) sevens,
)
