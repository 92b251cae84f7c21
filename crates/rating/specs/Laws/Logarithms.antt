-- Fractions that may stand for pi, ln 2 and the logarithms of a case, so that what is said of all such fractions is said of some.
-- Assumes nothing.
use Rattle.std.specs.Prelude.{List, ℕ, ◌*◌, ◌^◌}
use Rattle.exact.specs.Fraction.{◌over◌}
use Rattle.formulas.specs.Constants.{tera, pi_low, ln2_low}
use Rattle.formulas.specs.Logarithm.{log_low}
use Rattle.fields.specs.Fields as Field
use Rattle.rating.specs.Chosen.{Chosen}

-- the lower end of each
abbrev pub lowest : List ℕ → Chosen
lowest x =
    record {
      pi = pi_low over 10 ^ 10;
      ln2 = ln2_low over tera;
      log_spacing = log_low (2 * Field.spacing x) (Field.sheath_diameter x) over tera;
      log_insulation = log_low (Field.insulation_diameter x) (Field.screen_diameter x) over tera;
    }
