-- `losses` is the definition: the cores lie within the sheath.
use Rattle.std.proofs.Common.{arith, refl}
use Rattle.rating.specs.CommonSheath.{common_sheath}
use Rattle.rating.specs.Laws.Fit.{Fit}
use Rattle.rating.proofs.Own.{fits, B_is, Rs_is}
use Rattle.rating.proofs.Laws.Ranges.{Rs_range, B_range}
use Rattle.rating.proofs.Laws.CommonSheath.{Enclosed, enclosed, common_alternating}
use Rattle.rating.proofs.common_sheath.CommonSheathArrangement.losses.Goals as goal

pub common_loss-requires : goal.common_loss-requires
unfolding common_sheath
common_loss-requires c =
    let p = c.args.fit.now in
    let fit : Fit common_sheath p.case.x = fits c.requires p.fit in
    let ac = common_alternating fit in
    let b = B_is p c.requires refl in
    let rs = Rs_is p c.requires refl in
    let cores : Enclosed p.case.x = enclosed fit in
    let axis = c.from.ensures in
    let diameter = c.from-2.ensures in
    record {
      b_least = omega (arith, b, B_range ac);
      b_most = omega (arith, b, B_range ac);
      rs_most = omega (arith, rs, Rs_range ac);
      axis =
          record {
            d>0 = omega (arith, diameter, cores.d>0);
            d_most = omega (arith, diameter, ac.sheath_diameter);
            c_most = omega (arith, axis, diameter, cores.within_sheath);
          };
    }
