-- `losses` is the definition.
use Rattle.std.proofs.Common.{refl}
use Rattle.rating.specs.BothEnds.{both_ends}
use Rattle.rating.proofs.Own.{fits, B_is, Rs_is}
use Rattle.rating.proofs.SheathReactance.{high_takes, X_is}
use Rattle.rating.proofs.Laws.Ranges.{circulating_ranges}
use Rattle.rating.proofs.Laws.BothEnds.{both_ends_apart, both_ends_alternating}
use Rattle.rating.proofs.both_ends.BothEndsArrangement.losses.Goals as goal

pub sheath_reactance-reactance-requires : goal.sheath_reactance-reactance-requires
unfolding both_ends
sheath_reactance-reactance-requires c =
    let p = c.args.fit.now in
    let fit = fits c.requires p.fit in
    high_takes (both_ends_alternating fit) (both_ends_apart fit) (B_is p c.requires refl)

pub circulating_loss-requires : goal.circulating_loss-requires
unfolding both_ends
circulating_loss-requires c =
    let p = c.args.fit.now in
    let fit = fits c.requires p.fit in
    let x = X_is p.case.x (B_is p c.requires refl) c.sheath_reactance-reactance.ensures in
    circulating_ranges (both_ends_alternating fit) (both_ends_apart fit) x (Rs_is p c.requires refl)
