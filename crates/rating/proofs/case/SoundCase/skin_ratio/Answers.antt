-- `skin_ratio` is the definition.
use Rattle.std.proofs.Common.{arith}
use Rattle.rating.proofs.Laws.Ranges.{R'_range}
use Rattle.rating.proofs.case.SoundCase.skin_ratio.Goals as goal

pub skin_ratio-requires : goal.skin_ratio-requires
skin_ratio-requires c =
    let fine = c.args.self.now.sound in
    record {
      reactance =
          record {
            f_most = omega (arith, c.from.ensures, (fine.alternating c.requires.alternates).frequency);
            k_most = omega (arith, c.from-2.ensures, c.requires.k_most);
          };
      rc_least = omega (arith, c.requires.rc_is, R'_range fine);
    }
