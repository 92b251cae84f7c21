-- Direct current, on a case of arrangement 7, whatever its other fields hold: n is 1, R is R', S, W and dd are 0, the rise with no current
-- is the sun's alone, and the sheet is 0 but for R', R and E. Assumes nothing.
use Rattle.std.specs.Prelude.{◌≡◌, cond, List, [], ◌∷◌, ℕ}
use Rattle.std.proofs.Common.{◌∙◌, ap, arith}
use Rattle.formulas.specs.Dielectric.{dielectric_rise}
use Rattle.fields.specs.Fields as Field
use Rattle.rating.specs.Values.{R', Rs, B, ys, yp, R, Wd, soil_T4, solar_rise_of}
use Rattle.rating.specs.Arrangement.{Arrangement}
use Rattle.rating.specs.DirectCurrent.{direct_current}
use Rattle.rating.specs.Arrangements.{arrangement_of, own}
use Rattle.rating.specs.Current.{R_of, Wd_of}
use Rattle.rating.specs.Stage10.{Numbers, numbers_of, d0, E}
use Rattle.rating.specs.Rate.{sheet_of}
use Rattle.rating.proofs.Laws.LossVoltage.{no_rise}

pub record Direct (x : List ℕ) : Type 0 where
  pub numbers : numbers_of x ≡ record { n = 1; R = R' x; S = 0; W = 0; dd = 0 }
  pub d0_is : d0 x ≡ solar_rise_of x
  pub sheet : sheet_of x ≡ R' x ∷ 0 ∷ 0 ∷ 0 ∷ 0 ∷ 0 ∷ R' x ∷ 0 ∷ 0 ∷ 0 ∷ 0 ∷ 0 ∷ E x ∷ []

module _ (x : List ℕ) where
  -- stage 9 on the case, with n cores and the loss wd
  abbrev rise : (n wd : ℕ) → ℕ
  rise n wd = dielectric_rise n wd (Field.t1 x) (Field.t2 x) (Field.t3 x) (soil_T4 x)

  lossless : rise 1 0 ≡ 0
  lossless = no_rise 1 (Field.t1 x) (Field.t2 x) (Field.t3 x) (soil_T4 x)

  -- what any arrangement makes of the case
  abbrev numbers_in : Arrangement → Numbers
  numbers_in a =
      record { n = a.n; R = cond a.alternates (R x) (R' x); S = a.S x; W = a.W x; dd = rise a.n (cond a.alternates (Wd x) 0) }

  abbrev sheet_in : Arrangement → List ℕ
  sheet_in a =
      R' x ∷ cond a.alternates (Rs x) 0 ∷ a.RA x ∷ cond a.alternates (B x) 0 ∷ cond a.alternates (ys x) 0 ∷ cond a.alternates (yp x) 0
      ∷ cond a.alternates (R x) (R' x)
      ∷ a.X x
      ∷ a.S x
      ∷ a.W x
      ∷ cond a.alternates (Wd x) 0
      ∷ rise a.n (cond a.alternates (Wd x) 0)
      ∷ E x
      ∷ []

  pub direct : Field.arrangement x ≡ 7 → Direct x
  unfolding arrangement_of direct_current R_of Wd_of d0 sheet_of
  direct is_7 =
      let own_is : own x ≡ direct_current = ap arrangement_of is_7 in
      let five = ap numbers_in own_is ∙ ap (λ dd. record { n = 1; R = R' x; S = 0; W = 0; dd = dd }) lossless in
      record {
        numbers = five;
        d0_is = omega (arith, ap (λ (ν : Numbers). ν.dd) five);
        sheet =
            ap sheet_in own_is
            ∙ ap (λ dd. R' x ∷ 0 ∷ 0 ∷ 0 ∷ 0 ∷ 0 ∷ R' x ∷ 0 ∷ 0 ∷ 0 ∷ 0 ∷ dd ∷ E x ∷ []) lossless;
      }
