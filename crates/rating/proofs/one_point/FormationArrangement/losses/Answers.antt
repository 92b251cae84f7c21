-- `losses` is the definition: refusal 9 was not given.
use Rattle.std.proofs.Common.{arith, lit≤, ◌≤◌, refl}
use Rattle.rating.specs.declared.one_point.Formation.{Formation}
use Rattle.rating.specs.declared.one_point.Formation.TheVariants.{Trefoil, Flat}
use Rattle.rating.specs.Kind.{j_of}
use Rattle.rating.specs.OnePoint.{one_point}
use Rattle.rating.specs.Laws.Fit.{Fit}
use Rattle.rating.proofs.Own.{fits, B_is, Rs_is}
use Rattle.rating.proofs.Laws.Ranges.{Rs_range}
use Rattle.rating.proofs.Laws.OnePoint.{one_point_apart, one_point_alternating, eddies_small}
use Rattle.rating.proofs.one_point.FormationArrangement.losses.Goals as goal

j_most : (formation : Formation) → j_of formation ≤ 2
j_most Trefoil = lit≤ tt
j_most Flat = lit≤ tt

pub eddy_loss-requires : goal.eddy_loss-requires
unfolding one_point
eddy_loss-requires c =
    let p = c.args.fit.now in
    let fit : Fit (one_point (j_of c.args.self.now)) p.case.x = fits c.requires p.fit in
    let ac = one_point_alternating (j_of c.args.self.now) fit in
    let rs_range = Rs_range ac in
    let b = B_is p c.requires refl in
    let rs = Rs_is p c.requires refl in
    let apart = one_point_apart (j_of c.args.self.now) fit in
    record {
      j_most = omega (arith, c.j.ensures, j_most c.args.self.now);
      factor =
          record {
            rs>0 = omega (arith, rs, rs_range);
            rs_most = omega (arith, rs, rs_range);
            b_most = omega (arith, b, rs, eddies_small (j_of c.args.self.now) fit);
          };
      spacing =
          record {
            s>0 = omega (arith, c.from-2.ensures, ac.spacing);
            s_most = omega (arith, c.from-2.ensures, ac.spacing);
            apart = omega (arith, c.from-2.ensures, c.from.ensures, apart);
          };
    }
