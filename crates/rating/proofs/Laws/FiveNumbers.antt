-- One theorem over all arrangements, `all_arrangements`. A rated case's rating is stage 10 of its n, R, S, W and dd, and of the thermal
-- resistances, the permitted rise and the sun; and stage 10 never gives more where only S or W is larger. So a case that differs from a
-- rated one by a larger S or W alone is rated no higher. No statement and no proof here names an arrangement. Assumes nothing.
use Rattle.std.specs.Prelude.{◌≡◌, List, ℕ, ◌+◌, ◌*◌, ◌^◌, ◌≤◌, ◌<◌, eqb}
use Rattle.std.proofs.Common.{arith, ap, eqb-true, lit<, lt_of_lt_of_le, zero-le}
use Rattle.std.proofs.Math.Nat.{mul-pos}
use Rattle.std.proofs.lemmas.Bool.{eqb-false}
use Rattle.bools.proofs.Laws.Tests.{by_outcome}
use Rattle.exact.proofs.Laws.Rounding.{up_pos}
use Rattle.formulas.specs.Dielectric.{current_rise}
use Rattle.formulas.specs.Rating.{unit_rise, rating}
use Rattle.formulas.proofs.Laws.Losses.{unit_rise_grows, rating_falls}
use Rattle.fields.specs.Fields as Field
use Rattle.rating.specs.Values.{soil_T4, permitted_of, solar_rise_of}
use Rattle.rating.specs.Stage10.{Numbers, numbers_of, d0, N, E, current_of}
use Rattle.rating.specs.Rate.{rated, rate_of}
use Rattle.rating.proofs.Laws.Current.{R_of_range}
use Rattle.rating.proofs.Laws.Passed.{all_passed, rated_stages}
use Rattle.rating.proofs.Laws.Refused.{refused_zeros}
use Rattle.rating.proofs.Laws.Margin.{fit}

-- what stage 10 takes of a case beside its five numbers: T1 to T3, ρ T4, the permitted rise, which θx and ρ are in too, and the sun's
pub record Heat : Type 0 where
  pub t1 : ℕ
  pub t2 : ℕ
  pub t3 : ℕ
  pub t4 : ℕ
  pub permitted : ℕ
  pub sun : ℕ

abbrev pub heat_of : List ℕ → Heat
heat_of x =
    record {
      t1 = Field.t1 x;
      t2 = Field.t2 x;
      t3 = Field.t3 x;
      t4 = soil_T4 x;
      permitted = permitted_of x;
      sun = solar_rise_of x;
    }

unfoldable pub stage_10 : Numbers → Heat → ℕ
stage_10 ν h =
    rating (current_rise h.permitted (ν.dd + h.sun)) (unit_rise ν.n ν.R ν.S ν.W h.t1 h.t2 h.t3 h.t4)

rated_by_stage_10 : (x : List ℕ) → (rate_of x).number ≡ 0 → (rate_of x).rating ≡ stage_10 (numbers_of x) (heat_of x)
unfolding rated stage_10 current_of N E d0
rated_by_stage_10 x is-rated = ap (λ a. a.rating) (rated_stages x is-rated)

-- the second numbers differ from the first by larger losses in sheath or armour alone
pub record LargerLosses (ν μ : Numbers) : Type 0 where
  pub n : μ.n ≡ ν.n
  pub R : μ.R ≡ ν.R
  pub S : ν.S ≤ μ.S
  pub W : ν.W ≤ μ.W
  pub dd : μ.dd ≡ ν.dd

unit_rise_some : (n r s w t1 t2 t3 t4 : ℕ) → 0 < r * t1 → 0 < unit_rise n r s w t1 t2 t3 t4
unfolding unit_rise
unit_rise_some n r s w t1 t2 t3 t4 some = omega (arith, up_pos {b = 10 ^ 6} some (lit< tt))

-- where R T1 is 0 there may be no rise at all, and no rating
stage_10_falls : {ν μ : Numbers} → LargerLosses ν μ → (h : Heat) → 0 < ν.R * h.t1 → stage_10 μ h ≤ stage_10 ν h
unfolding stage_10
stage_10_falls {ν} {μ} more h some =
    rw (more.n, more.R, more.dd)
    (rating_falls (current_rise h.permitted (ν.dd + h.sun)) (unit_rise_some ν.n ν.R ν.S ν.W h.t1 h.t2 h.t3 h.t4 some)
    (unit_rise_grows ν.n ν.R h.t1 h.t2 h.t3 h.t4 more.S more.W))

-- the case y differs from x by larger losses alone
pub record OnlyLosesMore (x y : List ℕ) : Type 0 where
  pub numbers : LargerLosses (numbers_of x) (numbers_of y)
  pub heat : heat_of y ≡ heat_of x

some_rise : (x : List ℕ) → (rate_of x).number ≡ 0 → 0 < (numbers_of x).R * Field.t1 x
some_rise x is-rated =
    let fit = fit (all_passed x is-rated) in
    mul-pos (lt_of_lt_of_le (lit< tt) (R_of_range fit).least) (lt_of_lt_of_le (lit< tt) fit.sound.t1.least)

-- a refused case has the rating 0
rated_no_higher : (x y : List ℕ) → (rate_of x).number ≡ 0 → OnlyLosesMore x y → (rate_of y).rating ≤ (rate_of x).rating
rated_no_higher x y is-rated only =
    by_outcome (λ t. (rate_of y).rating ≤ (rate_of x).rating) (eqb (rate_of y).number 0)
    (λ rated.
    rw (rated_by_stage_10 x is-rated, rated_by_stage_10 y (eqb-true _ _ rated), only.heat)
    (stage_10_falls only.numbers (heat_of x) (some_rise x is-rated)))
    (λ refused. rw (refused_zeros y (eqb-false _ _ refused)).rating zero-le)

pub record AllArrangements : Type 0 where
  pub rated : (x : List ℕ) → (rate_of x).number ≡ 0 → (rate_of x).rating ≡ stage_10 (numbers_of x) (heat_of x)
  pub falls : {ν μ : Numbers} → LargerLosses ν μ → (h : Heat) → 0 < ν.R * h.t1 → stage_10 μ h ≤ stage_10 ν h
  pub no_higher : (x y : List ℕ) → (rate_of x).number ≡ 0 → OnlyLosesMore x y → (rate_of y).rating ≤ (rate_of x).rating

pub all_arrangements : AllArrangements
all_arrangements = record { rated = rated_by_stage_10; falls = stage_10_falls; no_higher = rated_no_higher }
