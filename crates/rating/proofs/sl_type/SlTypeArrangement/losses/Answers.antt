-- `losses` is the definition.
use Rattle.std.proofs.Common.{refl}
use Rattle.rating.specs.SlType.{sl_type}
use Rattle.rating.proofs.Own.{fits, B_is, Rs_is}
use Rattle.rating.proofs.SheathReactance.{high_takes, X_is}
use Rattle.rating.proofs.Laws.Ranges.{circulating_ranges}
use Rattle.rating.proofs.Laws.SlType.{armoured, sl_alternating}
use Rattle.rating.proofs.sl_type.SlTypeArrangement.losses.Goals as goal

pub resistance_of-ra-requires : goal.resistance_of-ra-requires
resistance_of-ra-requires c =
    let known = armoured (fits c.requires c.args.fit.now.fit) in
    record { resistance = known.resistance.most; code = known.metal; temperature = known.temperature }

pub sheath_reactance-reactance-requires : goal.sheath_reactance-reactance-requires
unfolding sl_type
sheath_reactance-reactance-requires c =
    let p = c.args.fit.now in
    let fit = fits c.requires p.fit in
    high_takes (sl_alternating fit) (armoured fit).apart (B_is p c.requires refl)

pub sl_loss-requires : goal.sl_loss-requires
unfolding sl_type
sl_loss-requires c =
    let p = c.args.fit.now in
    let fit = fits c.requires p.fit in
    let x = X_is p.case.x (B_is p c.requires refl) c.sheath_reactance-reactance.ensures in
    circulating_ranges (sl_alternating fit) (armoured fit).apart x (Rs_is p c.requires refl)
