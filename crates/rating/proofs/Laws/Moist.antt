-- Soil that does not dry out, on a case. Where ρ counts as 1000, which is where it is 0 or 1000, T4, the permitted rise, E and dd are those
-- of document 01, rounded and exact: such a case is rated as it was before there was dry soil. Assumes nothing.
use Rattle.std.specs.Prelude.{◌≡◌, List, ℕ, ◌+◌, ◌*◌, ◌^◌}
use Rattle.exact.specs.Rounding.{up}
use Rattle.exact.specs.Fraction.{whole, ◌+F◌, ◌*F◌, ◌/F◌, ◌≃F◌}
use Rattle.formulas.specs.Soil.{soil_ratio}
use Rattle.formulas.proofs.Laws.Soil.{
  moist_resistance,
  moist_permitted,
  moist_unit_rise,
  moist_dielectric_rise,
  moist_unit_rise*,
  moist_dielectric_rise*,
}
use Rattle.fields.specs.Fields as Field
use Rattle.rating.specs.Values.{rise_of, isotherm_rise_of, soil_T4, permitted_of}
use Rattle.rating.specs.Chosen.{Chosen}
use Rattle.rating.specs.Arrangements.{own}
use Rattle.rating.specs.Current.{Wd_of, Wd_of*}
use Rattle.rating.specs.Allowed.{Allowed}
use Rattle.rating.specs.Stage10.{numbers_of, E}
use Rattle.rating.specs.Exact.{numbers_of*, E*}
use Rattle.rating.specs.Laws.Fit.{Fit}
use Rattle.rating.proofs.Laws.Current.{Wd_of_close}
use Rattle.rating.proofs.Laws.Stage10.{numbers_close}

pub record AsMoist (x : List ℕ) : Type 0 where
  pub resistance : soil_T4 x ≡ 1000 * Field.t4 x
  pub permitted : permitted_of x ≡ 10 ^ 7 * rise_of x
  pub unit_rise :
      E x
      ≡ up ((numbers_of x).R * Field.t1 x) (10 ^ 6)
      + up ((numbers_of x).n * ((numbers_of x).R + (numbers_of x).S) * Field.t2 x) (10 ^ 6)
      + up ((numbers_of x).n * ((numbers_of x).R + (numbers_of x).S + (numbers_of x).W) * (Field.t3 x + Field.t4 x)) (10 ^ 6)
  pub rise :
      (numbers_of x).dd
      ≡ up (Wd_of x * (Field.t1 x + 2 * (numbers_of x).n * (Field.t2 x + Field.t3 x + Field.t4 x))) (2 * 10 ^ 9)

-- the same with no rounding
pub record AsMoist* (x : List ℕ) (c : Chosen) : Type 0 where
  pub unit_rise :
      E* x c
      ≃F (numbers_of* x c).R *F whole (Field.t1 x) /F whole (10 ^ 6)
      +F whole (numbers_of x).n *F ((numbers_of* x c).R +F (numbers_of* x c).S) *F whole (Field.t2 x) /F whole (10 ^ 6)
      +F whole (numbers_of x).n *F ((numbers_of* x c).R +F (numbers_of* x c).S +F (numbers_of* x c).W)
      *F whole (Field.t3 x + Field.t4 x)
      /F whole (10 ^ 6)
  pub rise :
      (numbers_of* x c).dd
      ≃F Wd_of* x c *F whole (Field.t1 x + 2 * (numbers_of x).n * (Field.t2 x + Field.t3 x + Field.t4 x)) /F whole (2 * 10 ^ 9)

module _ (x : List ℕ) (none_dries : soil_ratio (Field.dry_ratio x) ≡ 1000) where
  pub as_moist : AsMoist x
  unfolding soil_T4 permitted_of E
  as_moist =
      let ν = numbers_of x in
      let ρ = Field.dry_ratio x in
      record {
        resistance = moist_resistance ρ none_dries (Field.t4 x);
        permitted = moist_permitted ρ none_dries (rise_of x) (isotherm_rise_of x);
        unit_rise = moist_unit_rise ρ none_dries ν.n ν.R ν.S ν.W (Field.t1 x) (Field.t2 x) (Field.t3 x) (Field.t4 x);
        rise = moist_dielectric_rise ρ none_dries ν.n (Wd_of x) (Field.t1 x) (Field.t2 x) (Field.t3 x) (Field.t4 x);
      }

  module _ {c : Chosen} (allowed : Allowed (own x) x c) (fit : Fit (own x) x) where
    pub as_moist* : AsMoist* x c
    unfolding soil_T4 E*
    as_moist* =
        let near = numbers_close fit allowed in
        let ν* = numbers_of* x c in
        let n = (numbers_of x).n in
        let ρ = Field.dry_ratio x in
        record {
          unit_rise =
              moist_unit_rise* ρ none_dries n ν*.R ν*.S ν*.W (Field.t1 x) (Field.t2 x) (Field.t3 x) (Field.t4 x) near.R.below.left
              near.S.below.left
              near.W.below.left;
          rise =
              moist_dielectric_rise* ρ none_dries n (Wd_of* x c) (Field.t1 x) (Field.t2 x) (Field.t3 x) (Field.t4 x)
              (Wd_of_close fit allowed).below.left;
        }
