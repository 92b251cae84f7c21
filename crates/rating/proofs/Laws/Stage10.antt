-- Stage 10 of a case from its five numbers alone: their ranges, the range of E, and how close E and d0 lie to their exact values.
-- Assumes nothing.
use Rattle.std.specs.Prelude.{List, ℕ, ◌+◌, ◌≤◌}
use Rattle.std.proofs.Common.{sym, add-le-add, lit<, lit≤}
use Rattle.exact.specs.Fraction.{whole}
use Rattle.exact.proofs.Laws.Fraction.{whole-+F, ≤F_refl}
use Rattle.exact.specs.Error.{Within}
use Rattle.exact.proofs.Laws.Error.{within_plus, within_weaken}
use Rattle.formulas.specs.Laws.Bounds.{
  least_conductor_resistance,
  least_unit_rise,
  most_ac_resistance,
  most_armour_loss,
  most_dielectric_rise,
  most_sheath_loss,
  most_solar_rise,
  most_unit_rise,
}
use Rattle.formulas.specs.Laws.Ranges.{In}
use Rattle.formulas.proofs.Laws.Ranges.{dielectric_rise_most, unit_rise_least, unit_rise_most}
use Rattle.formulas.proofs.Laws.CloseDielectric.{dielectric_close}
use Rattle.formulas.proofs.Laws.CloseUnitRise.{unit_rise_close}
use Rattle.fields.specs.Fields as Field
use Rattle.rating.specs.Values.{soil_T4, solar_rise_of}
use Rattle.rating.specs.Chosen.{Chosen}
use Rattle.rating.specs.Arrangements.{own}
use Rattle.rating.specs.Allowed.{Allowed}
use Rattle.rating.specs.Stage10.{Numbers, numbers_of, d0, E}
use Rattle.rating.specs.Exact.{Numbers*, numbers_of*, E*, d0*}
use Rattle.rating.specs.Laws.Fit.{Fit}
use Rattle.rating.proofs.Laws.Ranges.{soil_T4_range, solar_rise_most}
use Rattle.rating.proofs.Laws.Arrangement.{Lawful}
use Rattle.rating.proofs.Laws.Arrangements.{lawful}
use Rattle.rating.proofs.Laws.Current.{R_of_range, Wd_of_most, R_of_close, Wd_of_close}

pub record InRange (ν : Numbers) : Type 0 where
  pub n : In 1 3 ν.n
  pub R : In least_conductor_resistance most_ac_resistance ν.R
  pub S : ν.S ≤ most_sheath_loss
  pub W : ν.W ≤ most_armour_loss
  pub dd : ν.dd ≤ most_dielectric_rise

pub record Close (e : Numbers*) (ν : Numbers) : Type 0 where
  pub R : Within 40000 (whole 0) e.R (whole ν.R)
  pub S : Within 40000 (whole 2000) e.S (whole ν.S)
  pub W : Within 40000 (whole 2000) e.W (whole ν.W)
  pub dd : Within 2500 (whole 2) e.dd (whole ν.dd)

module _ {x : List ℕ} (fit : Fit (own x) x) where
  its_own : Lawful (own x)
  its_own = lawful (Field.arrangement x)

  pub numbers_in_range : InRange (numbers_of x)
  numbers_in_range =
      let fine = fit.sound in
      let n = its_own.n fit.known in
      record {
        n = n;
        R = R_of_range fit;
        S = its_own.S fit;
        W = its_own.W fit;
        dd = dielectric_rise_most n.most (Wd_of_most fit) fine.t1.most fine.t2.most fine.t3.most (soil_T4_range fine).most;
      }

  pub d0_most : d0 x ≤ most_dielectric_rise + most_solar_rise
  unfolding d0
  d0_most = add-le-add numbers_in_range.dd (solar_rise_most fit.sound)

  pub E_range : In least_unit_rise most_unit_rise (E x)
  unfolding E
  E_range =
      let ν = numbers_in_range in
      let fine = fit.sound in
      record {
        least = unit_rise_least _ _ _ _ _ _ ν.R.least fine.t1.least;
        most =
            unit_rise_most ν.n.most ν.R.most ν.S ν.W fine.t1.most fine.t2.most fine.t3.most (soil_T4_range fine).most;
      }

  module _ {c : Chosen} (allowed : Allowed (own x) x c) where
    pub numbers_close : Close (numbers_of* x c) (numbers_of x)
    numbers_close =
        let fine = fit.sound in
        record {
          R = R_of_close fit allowed;
          S = its_own.S_close allowed fit;
          W = its_own.W_close allowed fit;
          dd =
              within_weaken (lit≤ tt) (≤F_refl (whole 2) (lit< tt))
              (dielectric_close (its_own.n fit.known).most fine.t1.most fine.t2.most fine.t3.most (soil_T4_range fine).most
              (Wd_of_close fit allowed));
        }

    -- the sun's rise is the same in both
    pub d0_close : Within 2500 (whole 2) (d0* x c) (whole (d0 x))
    unfolding d0* d0
    d0_close = rw (sym (whole-+F (numbers_of x).dd (solar_rise_of x))) (within_plus (whole (solar_rise_of x)) (lit< tt) numbers_close.dd)

    pub E_close : Within 160000 (whole 0) (E* x c) (whole (E x))
    unfolding E* E
    E_close =
        let near = numbers_close in
        let ν = numbers_in_range in
        unit_rise_close near.R near.S near.W ν.R.least (numbers_of x).n (Field.t1 x) (Field.t2 x) (Field.t3 x) (soil_T4 x)
        ν.n.least
        fit.sound.t1.least
        (soil_T4_range fit.sound).least
