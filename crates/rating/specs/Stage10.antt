-- docs/RATING.md, stages 9 and 10 on a case: the five numbers that they take of its arrangement and its current, d0, N, E and the rating.
-- Every arrangement shares this. Assumes nothing.
use Rattle.std.specs.Prelude.{List, ℕ, ◌+◌}
use Rattle.formulas.specs.Dielectric.{dielectric_rise, current_rise}
use Rattle.formulas.specs.Rating.{unit_rise, rating}
use Rattle.fields.specs.Fields as Field
use Rattle.rating.specs.Values.{soil_T4, permitted_of, solar_rise_of}
use Rattle.rating.specs.Arrangements.{own}
use Rattle.rating.specs.Current.{R_of, Wd_of}

pub record Numbers : Type 0 where
  pub n : ℕ
  pub R : ℕ
  pub S : ℕ
  pub W : ℕ
  pub dd : ℕ

abbrev pub numbers_of : List ℕ → Numbers
numbers_of x =
    let a = own x in
    record {
      n = a.n;
      R = R_of x;
      S = a.S x;
      W = a.W x;
      dd = dielectric_rise a.n (Wd_of x) (Field.t1 x) (Field.t2 x) (Field.t3 x) (soil_T4 x);
    }

-- the rise of the conductor with no current, in 10^-9 K
unfoldable pub d0 : List ℕ → ℕ
d0 x = (numbers_of x).dd + solar_rise_of x

unfoldable pub N : List ℕ → ℕ
N x = current_rise (permitted_of x) (d0 x)

unfoldable pub E : List ℕ → ℕ
E x =
    let ν = numbers_of x in
    unit_rise ν.n ν.R ν.S ν.W (Field.t1 x) (Field.t2 x) (Field.t3 x) (soil_T4 x)

-- the current that stage 10 gives
unfoldable pub current_of : List ℕ → ℕ
current_of x = rating (N x) (E x)
