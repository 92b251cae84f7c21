-- Arrangement 7: one core, and no loss in sheath or armour. Assumes nothing.
use Rattle.std.proofs.Common.{lit≤}
use Rattle.std.proofs.lemmas.Bool.{false≢true}
use Rattle.rating.specs.DirectCurrent.{direct_current}
use Rattle.rating.proofs.Laws.Arrangement.{Lawful, one_core, none_lost}

pub direct_current_lawful : Lawful direct_current
unfolding direct_current
direct_current_lawful =
    record {
      reacts = λ reactive. absurd (false≢true reactive);
      eddies = λ tried. absurd (false≢true tried);
      apart = λ reactive placed. absurd (false≢true reactive);
      spaced = λ alternates fit. absurd (false≢true alternates);
      n = λ known. one_core;
      S = λ fit. lit≤ tt;
      W = λ fit. lit≤ tt;
      S_close = λ allowed fit. none_lost;
      W_close = λ allowed fit. none_lost;
    }
