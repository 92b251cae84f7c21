-- `dielectric_rise` is the definition.
use Rattle.std.proofs.Common.{arith}
use Rattle.rating.proofs.Laws.Ranges.{thermal_ranges}
use Rattle.rating.proofs.Laws.Current.{Wd_of_most}
use Rattle.rating.proofs.Laws.Stage10.{numbers_in_range}
use Rattle.rating.proofs.judge.FitCase.dielectric_rise.Goals as goal

pub dielectric_rise-requires : goal.dielectric_rise-requires
dielectric_rise-requires c =
    let self = c.args.self.now in
    let t = c.requires.t_is in
    record {
      n_most = omega (arith, c.requires.n_is, (numbers_in_range self.fit).n);
      wd_most = omega (arith, self.wd_is, Wd_of_most self.fit);
      thermal = thermal_ranges self.fit.sound t.t1_is t.t2_is t.t3_is t.t4_is;
    }
