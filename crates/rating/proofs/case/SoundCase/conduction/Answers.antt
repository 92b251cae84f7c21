-- `conduction` is the definition: the factors, u, and R, each in its range after refusal 8.
use Rattle.std.proofs.Common.{ap, arith, ◌∙◌, ◌≡◌}
use Rattle.formulas.specs.Skin.{skin_ratio_squared, factor, skin_factor}
use Rattle.formulas.specs.Proximity.{spacing_ratio, proximity_factor, ac_resistance}
use Rattle.fields.specs.Fields as Field
use Rattle.rating.specs.Values.{zs, zp, ys, G, yp, R}
use Rattle.rating.proofs.Laws.Ranges.{R'_range, ys_most, G_most, u_most, yp_most}
use Rattle.rating.proofs.Laws.Current.{spaced}
use Rattle.rating.proofs.case.SoundCase.conduction.Goals as goal
use Rattle.rating.proofs.case.SoundCase.conduction.Goals.{After-factor, After-factor-ys, After-proximity_factor-yp, After-spacing_ratio-u}

ys_is : (c : After-factor-ys) → c.factor-ys.result ≡ ys c.args.self.now.x
unfolding ys zs skin_factor
ys_is c = c.factor-ys.ensures ∙ ap (λ z. factor (skin_ratio_squared z)) c.requires.skin_is

u_is :
    (c : After-spacing_ratio-u) →
    let x = c.args.self.now.x in
    c.spacing_ratio-u.result ≡ spacing_ratio (Field.conductor_diameter x) (Field.spacing x)
u_is c =
    let dc = c.from.ensures in
    let s = c.from-2.ensures in
    c.spacing_ratio-u.ensures ∙ (λ i. spacing_ratio (dc i) (s i))

g_is : (c : After-factor) → c.factor.result ≡ G c.args.self.now.x
unfolding G zp skin_factor
g_is c = c.factor.ensures ∙ ap (λ z. factor (skin_ratio_squared z)) c.requires.proximity_is

yp_is :
    (c : After-proximity_factor-yp) →
    let x = c.args.self.now.x in
    c.spacing_ratio-u.result ≡ spacing_ratio (Field.conductor_diameter x) (Field.spacing x) → c.factor.result ≡ G x →
    c.proximity_factor-yp.result ≡ yp x
unfolding yp
yp_is c u g = c.proximity_factor-yp.ensures ∙ (λ i. proximity_factor (u i) (g i))

pub spacing_ratio-u-requires : goal.spacing_ratio-u-requires
spacing_ratio-u-requires c =
    let fit = c.requires.fit in
    let ac = c.requires.alternates in
    omega (arith, c.from-2.ensures, c.from.ensures, (fit.alternating ac).spacing, spaced fit ac)

pub proximity_factor-yp-requires : goal.proximity_factor-yp-requires
proximity_factor-yp-requires c =
    let fit = c.requires.fit in
    let ac = c.requires.alternates in
    record {
      u_most = omega (
        arith,
        u_is (goal.at.proximity_factor-yp-requires c).After-spacing_ratio-u,
        u_most fit.sound (fit.alternating ac) (fit.skin ac) (fit.proximity ac) (spaced fit ac),
      );
      factor_most = omega (arith, g_is c, G_most fit.sound (fit.skin ac) (fit.proximity ac));
    }

pub ac_resistance-requires : goal.ac_resistance-requires
ac_resistance-requires c =
    let fit = c.requires.fit in
    let ac = c.requires.alternates in
    let ys = ys_is (goal.at.ac_resistance-requires c).After-factor-ys in
    let u = u_is (goal.at.ac_resistance-requires c).After-spacing_ratio-u in
    let g = g_is (goal.at.ac_resistance-requires c).After-factor in
    record {
      rc_most = omega (arith, c.requires.rc_is, R'_range fit.sound);
      ys_most = omega (arith, ys, ys_most fit.sound (fit.skin ac) (fit.proximity ac));
      yp_most =
          omega (arith, yp_is c u g, yp_most fit.sound (fit.alternating ac) (fit.skin ac) (fit.proximity ac) (spaced fit ac));
    }

pub returns : goal.returns
unfolding R
returns c =
    let ys = ys_is (goal.at.returns c).After-factor-ys in
    let u = u_is (goal.at.returns c).After-spacing_ratio-u in
    let g = g_is (goal.at.returns c).After-factor in
    let yp = yp_is (goal.at.returns c).After-proximity_factor-yp u g in
    let rc = c.requires.rc_is in
    record { ys_is = ys; yp_is = yp; r_is = c.ac_resistance.ensures ∙ (λ i. ac_resistance (rc i) (ys i) (yp i)) }
