-- What the steps of `rate` take and hand on, for the contracts inside this crate: the limits of a metal, an arrangement's answers about the
-- fields, the values that every arrangement shares, and an arrangement's losses. Assumes nothing.
use Rattle.std.specs.Prelude.{◌≡◌, true, List, ℕ, ◌*◌, ◌≤◌, ℤ, pos, neg_ℤ, Result, MatchResult}
use Rattle.rating.specs.declared.arrangement.Rules.{Rules}
use Rattle.rating.specs.declared.arrangement.Losses.{Losses}
use Rattle.rating.specs.declared.conductor.Conduction.{Conduction}
use Rattle.rating.specs.declared.refusal.Refusal.{Refusal}
use Rattle.rating.specs.Refusal.{number_of}
use Rattle.stages.specs.declared.thermal.Thermal.{Thermal}
use Rattle.formulas.specs.Laws.Bounds.{most_reactance, most_spacing_log}
use Rattle.formulas.specs.Laws.Ranges.{In}
use Rattle.fields.specs.Fields as Field
use Rattle.rating.specs.Values.{R', zs, zp, ys, yp, R, soil_T4, permitted_of}
use Rattle.rating.specs.Arrangement.{Arrangement}
use Rattle.rating.specs.Arrangements.{own}
use Rattle.rating.specs.FieldRefusals.{field_refusal}
use Rattle.rating.specs.Stage10 as Stage10
use Rattle.rating.specs.Stage10.{E}
use Rattle.rating.specs.Rate.{refused, rate_of}
use Rattle.rating.specs.Laws.Sound.{InZ, Alternating}
use Rattle.rating.specs.Laws.Fit.{Fit}

-- the limits of a metal's resistance at 20 °C, its code, and its temperature
pub record MetalLimits (field metal : ℕ) (θ : ℤ) : Type 0 where
  pub resistance : field ≤ 20000000
  pub code : In 1 6 metal
  pub temperature : InZ (neg_ℤ (pos 4000)) (pos 25000) θ

-- t holds T1 to T4 of the case x, T4 in its own unit
pub record IsThermal (x : List ℕ) (t : Thermal) : Type 0 where
  pub t1_is : t.t1 ≡ Field.t1 x
  pub t2_is : t.t2 ≡ Field.t2 x
  pub t3_is : t.t3 ≡ Field.t3 x
  pub t4_is : t.t4 ≡ soil_T4 x

-- what ys, yp and R are worked out from, after refusal 8
pub record ConductorTakes (x : List ℕ) (rc skin proximity : ℕ) : Type 0 where
  pub fit : Fit (own x) x
  pub alternates : (own x).alternates ≡ true
  pub rc_is : rc ≡ R' x
  pub skin_is : skin ≡ zs x
  pub proximity_is : proximity ≡ zp x

-- h holds ys, yp and R of the case x
pub record Conducts (x : List ℕ) (h : Conduction) : Type 0 where
  pub ys_is : h.ys ≡ ys x
  pub yp_is : h.yp ≡ yp x
  pub r_is : h.r ≡ R x

-- the refusal is the answer to the case x
abbrev pub Refuses : List ℕ → Refusal → Type 0
Refuses x refusal = rate_of x ≡ refused (number_of refusal)

-- a is an arrangement, and r holds what it asks of the case x
pub record Asks (a : Arrangement) (x : List ℕ) (r : Rules) : Type 0 where
  pub known : a.known ≡ true
  pub alternates : r.alternates ≡ a.alternates
  pub limits : r.limits ≡ a.limits x
  pub unused : r.unused ≡ a.unused x
  pub geometry : r.geometry ≡ a.geometry x
  pub heat : r.heat ≡ a.heat x
  pub metal : r.metal ≡ a.metal x
  pub eddies : r.eddies ≡ a.eddies

-- the first refusal of the fields that is given, or none is
abbrev pub ChecksFields : List ℕ → Result (Unit {0}) Refusal → Type 0
ChecksFields x r = MatchResult r (λ _. field_refusal x ≡ 0) (λ refusal. field_refusal x ≡ number_of refusal)

-- what an end of the sheath's reactance is worked out from: an alternating current, sheaths that do not overlap, and that end of B
pub record SheathReactanceTakes (spacing_log : ℕ → ℕ → ℕ → ℕ) (x : List ℕ) (b : ℕ) : Type 0 where
  pub alternating : Alternating x
  pub apart : Field.sheath_diameter x ≤ Field.spacing x
  pub log_most : spacing_log (Field.arrangement x) (Field.spacing x) (Field.sheath_diameter x) ≤ most_spacing_log
  pub b_most : b ≤ most_reactance

-- l holds n, RA, X, S and W of the case x in the arrangement a
pub record Loses (a : Arrangement) (x : List ℕ) (l : Losses) : Type 0 where
  pub n_is : l.n ≡ a.n
  pub ra_is : l.ra ≡ a.RA x
  pub x_is : l.x ≡ a.X x
  pub s_is : l.s ≡ a.S x
  pub w_is : l.w ≡ a.W x

-- the permitted rise, d0, which refusal 10 lets pass, and E of the case x
pub record Warms (x : List ℕ) (permitted d0 e : ℕ) : Type 0 where
  pub permitted_is : permitted ≡ permitted_of x
  pub d0_is : d0 ≡ Stage10.d0 x
  pub e_is : e ≡ E x
  pub share : 10 * d0 ≤ 9 * permitted
