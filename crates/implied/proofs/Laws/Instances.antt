-- What the ratings of two cables imply: of a three-core cable of SL type, which docs/RATING.md works out, and of a feeder with direct
-- current, which has no loss but its conductor's. Assumes nothing.
use Rattle.std.specs.Prelude.{◌≡◌, refl, pos, neg_ℤ}
use Rattle.std.proofs.Common.{ap, ◌∙◌}
use Rattle.rating.specs.SlType.{sl_type}
use Rattle.rating.specs.DirectCurrent.{direct_current}
use Rattle.rating.specs.Arrangements.{arrangement_of}
use Rattle.rating.specs.Rate.{Answer, rate_of}
use Rattle.rating.proofs.Laws.Answers.{cable, feeder, answered}
use Rattle.implied.specs.Nearest.{nearest}
use Rattle.implied.specs.Implied.{factor, loss, cooler, implied}

-- 32.67 W/m in each conductor, 73.51 degrees C at the sheaths and 63.07 at the surface
pub sl_type_5 :
    implied cable (rate_of cable).rating (rate_of cable).sheet
    ≡ record {
      sheath_factor = pos 17941;
      armour_factor = pos 62518;
      conductor_loss = pos 32674669;
      sheath_loss = pos 586220;
      armour_loss = pos 2042740;
      dielectric_loss = pos 305721;
      sheath_temperature = pos 7351;
      armour_temperature = pos 6948;
      surface_temperature = pos 6307;
    }
unfolding implied factor loss cooler nearest arrangement_of sl_type
sl_type_5 = ap (λ (a : Answer). implied cable a.rating a.sheet) answered.sl_type_5 ∙ refl

pub direct_7 :
    implied feeder (rate_of feeder).rating (rate_of feeder).sheet
    ≡ record {
      sheath_factor = pos 0;
      armour_factor = pos 0;
      conductor_loss = pos 35058796;
      sheath_loss = pos 0;
      armour_loss = pos 0;
      dielectric_loss = pos 0;
      sheath_temperature = pos 8698;
      armour_temperature = pos 8698;
      surface_temperature = pos 8281;
    }
unfolding implied factor loss cooler nearest arrangement_of direct_current
direct_7 = ap (λ (a : Answer). implied feeder a.rating a.sheet) answered.direct_7 ∙ refl

-- a drop past 0 degrees, and a factor where there is no resistance
below_freezing : cooler (pos 4000) 110000000000000 ≡ neg_ℤ (pos 1500)
unfolding cooler nearest
below_freezing = refl

no_resistance : factor 5 0 ≡ 0
unfolding factor nearest
no_resistance = refl
