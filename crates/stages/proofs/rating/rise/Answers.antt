-- `stages::rating::rise` is one quotient, with its range.
use Rattle.std.proofs.Common.{arith}
use Rattle.exact.proofs.Laws.Rounding.{up_least}
use Rattle.formulas.specs.Laws.Bounds.{most_part_rise}
use Rattle.stages.proofs.Quotients.{quotient_up_fits}
use Rattle.stages.proofs.rating.rise.Goals as goal

pub returns : goal.returns
returns c =
    record {
      rise_is = c.mul_div.ensures;
      rise_most = omega (arith, c.mul_div.ensures, up_least _ most_part_rise c.requires.unit>0 c.requires.product_most);
    }

pub mul_div-requires : goal.mul_div-requires
mul_div-requires c = quotient_up_fits most_part_rise c.requires.unit>0 c.requires.product_most tt
