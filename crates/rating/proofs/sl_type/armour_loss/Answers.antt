-- `armour_loss` is the definition: the loss before the screening, then the screening by the sheaths.
use Rattle.std.proofs.Common.{ap, arith, ◌<◌, ◌∙◌, ◌≡◌, refl}
use Rattle.formulas.specs.Reactance.{reactance_low}
use Rattle.formulas.specs.Armour.{unscreened_loss, screened_loss, armour_loss}
use Rattle.formulas.proofs.Laws.Ranges.{unscreened_loss_most}
use Rattle.fields.specs.Fields as Field
use Rattle.rating.specs.Values.{RA, B}
use Rattle.rating.specs.SlType.{sl_type}
use Rattle.rating.specs.Laws.Fit.{Fit}
use Rattle.rating.proofs.Own.{fits, B_is, Rs_is}
use Rattle.rating.proofs.SheathReactance.{low_takes, XLow_is}
use Rattle.rating.proofs.Laws.Ranges.{Rs_range, B_range, X_low_range}
use Rattle.rating.proofs.Laws.SlType.{Armoured, armoured, sl_alternating, RA_range}
use Rattle.rating.proofs.sl_type.armour_loss.Goals as goal
use Rattle.rating.proofs.sl_type.armour_loss.Goals.{After-unscreened_loss-unscreened, After-reactance-b_low}

unscreened_is :
    (c : After-unscreened_loss-unscreened) →
    let x = c.args.fit.now.case.x in
    c.unscreened_loss-unscreened.result ≡ unscreened_loss (RA x) (B x) (Field.axis_distance x) (Field.armour_diameter x)
unfolding sl_type
unscreened_is c =
    let ra = c.requires.ra_is in
    let b = B_is c.args.fit.now c.requires.own_is refl in
    let d = c.from.ensures in
    let dA = c.from-2.ensures in
    c.unscreened_loss-unscreened.ensures ∙ (λ i. unscreened_loss (ra i) (b i) (d i) (dA i))

pub unscreened_loss-unscreened-requires : goal.unscreened_loss-unscreened-requires
unfolding sl_type
unscreened_loss-unscreened-requires c =
    let fit : Fit sl_type c.args.fit.now.case.x = fits c.requires.own_is c.args.fit.now.fit in
    let known : Armoured c.args.fit.now.case.x = armoured fit in
    record {
      reduced =
          record {
            ra_most = omega (arith, c.requires.ra_is, RA_range fit);
            b_least = omega (arith, B_is c.args.fit.now c.requires.own_is refl, B_range (sl_alternating fit));
          };
      axis =
          record {
            d>0 = omega (arith, c.from-2.ensures, known.diameter);
            d_most = omega (arith, c.from-2.ensures, known.diameter);
            c_most = omega (arith, c.from-2.ensures, c.from.ensures, known.distance);
          };
    }

pub reactance-b_low-requires : goal.reactance-b_low-requires
reactance-b_low-requires c =
    omega (arith, c.from-3.ensures, (sl_alternating (fits c.requires.own_is c.args.fit.now.fit)).frequency)

b_low_is :
    (c : After-reactance-b_low) → c.reactance-b_low.result ≡ reactance_low (Field.frequency c.args.fit.now.case.x)
b_low_is c = c.reactance-b_low.ensures ∙ ap reactance_low c.from-3.ensures

pub sheath_reactance-requires : goal.sheath_reactance-requires
sheath_reactance-requires c =
    let fit = fits c.requires.own_is c.args.fit.now.fit in
    low_takes (sl_alternating fit) (armoured fit).apart
    (b_low_is (goal.at.sheath_reactance-requires c).After-reactance-b_low)

pub screened_loss-requires : goal.screened_loss-requires
unfolding sl_type
screened_loss-requires c =
    let x = c.args.fit.now.case.x in
    let fit : Fit sl_type x = fits c.requires.own_is c.args.fit.now.fit in
    let known : Armoured x = armoured fit in
    let dA>0 : 0 < Field.armour_diameter x = omega (arith, known.diameter) in
    let b_low = b_low_is (goal.at.screened_loss-requires c).After-reactance-b_low in
    let x_low = XLow_is x b_low c.sheath_reactance.ensures in
    record {
      w_most =
          omega (
            arith,
            unscreened_is (goal.at.screened_loss-requires c).After-unscreened_loss-unscreened,
            unscreened_loss_most (B x) (Field.axis_distance x) (RA_range fit).most dA>0 known.distance,
          );
      ratio =
          record {
            x_most = omega (arith, x_low, X_low_range (sl_alternating fit) known.apart);
            rs_least = omega (arith, Rs_is c.args.fit.now c.requires.own_is refl, Rs_range (sl_alternating fit));
          };
    }

pub returns : goal.returns
unfolding armour_loss sl_type
returns c =
    let w = unscreened_is (goal.at.returns c).After-unscreened_loss-unscreened in
    let b_low = b_low_is (goal.at.returns c).After-reactance-b_low in
    let x = XLow_is c.args.fit.now.case.x b_low c.sheath_reactance.ensures in
    let rs = Rs_is c.args.fit.now c.requires.own_is refl in
    c.screened_loss.ensures ∙ (λ i. screened_loss (w i) (x i) (rs i))
