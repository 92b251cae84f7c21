-- `unit_rise` is the definition: every number is in its range.
use Rattle.std.proofs.Common.{arith}
use Rattle.rating.proofs.Laws.Ranges.{thermal_ranges}
use Rattle.rating.proofs.Laws.Stage10.{numbers_in_range}
use Rattle.rating.proofs.judge.FitCase.unit_rise.Goals as goal

pub unit_rise-requires : goal.unit_rise-requires
unit_rise-requires c =
    let self = c.args.self.now in
    let ν = numbers_in_range self.fit in
    let l = c.requires.l_is in
    let t = c.requires.t_is in
    record {
      n_most = omega (arith, l.n_is, ν.n);
      r_most = omega (arith, self.r_is, ν.R);
      s_most = omega (arith, l.s_is, ν.S);
      w_most = omega (arith, l.w_is, ν.W);
      thermal = thermal_ranges self.fit.sound t.t1_is t.t2_is t.t3_is t.t4_is;
    }
