-- Demand 3's exact rise of a case, in fractions and with no rounding (docs/RATING.md, 'The exact rise'). Assumes nothing.
use Rattle.std.specs.Prelude.{List, ℕ}
use Rattle.exact.specs.Fraction.{Fraction, whole, ◌+F◌}
use Rattle.formulas.specs.Dielectric.{dielectric_rise*}
use Rattle.formulas.specs.Rating.{unit_rise*, rise*}
use Rattle.fields.specs.Fields as Field
use Rattle.rating.specs.Values.{soil_T4, solar_rise_of}
use Rattle.rating.specs.Chosen.{Chosen}
use Rattle.rating.specs.Arrangements.{own}
use Rattle.rating.specs.Current.{R_of*, Wd_of*}

-- the numbers of stage 10 with no rounding; n is a whole number
pub record Numbers* : Type 0 where
  pub R : Fraction
  pub S : Fraction
  pub W : Fraction
  pub dd : Fraction

module _ (x : List ℕ) (c : Chosen) where
  abbrev pub numbers_of* : Numbers*
  numbers_of* =
      let a = own x in
      record {
        R = R_of* x c;
        S = a.S* x c;
        W = a.W* x c;
        dd = dielectric_rise* a.n (Wd_of* x c) (Field.t1 x) (Field.t2 x) (Field.t3 x) (soil_T4 x);
      }

  unfoldable pub E* : Fraction
  E* = unit_rise* (own x).n numbers_of*.R numbers_of*.S numbers_of*.W (Field.t1 x) (Field.t2 x) (Field.t3 x) (soil_T4 x)

  -- the paper's d0
  unfoldable pub d0* : Fraction
  d0* = numbers_of*.dd +F whole (solar_rise_of x)

  -- the rise of the conductor above the ambient at a current in mA, in 10^-9 K
  unfoldable pub exact_rise : Fraction → Fraction
  exact_rise i = rise* i E* d0*
