-- The rows of the fields, in the order of a case's fields (docs/SHEET.md, 'The fields'). The words end in the limits. Assumes nothing.
use Prim.Native.String.{String}
use Rattle.std.specs.Prelude.{Bool, true, false, cond, List, [], ◌∷◌, ℕ, ℤ, pos, codes}
use Rattle.std.specs.Int.{w32}
use Rattle.std.proofs.Common.{to_z}
use Rattle.row_text.specs.Row.{Label, row}
use Rattle.sheet_text.specs.Codes.{Words, arrangements, conductors, metals, words_of}

-- whether the field is in two's complement; and what its numbers stand for, if it is a code
pub record FieldRow : Type 0 where
  pub label : Label
  pub signed : Bool
  pub names : List Words

abbrev pub plain : String → String → String → ℕ → FieldRow
plain symbol unit words decimals =
    record {
      label = record { symbol = codes symbol; unit = codes unit; words = codes words; decimals = decimals };
      signed = false;
      names = [];
    }

abbrev pub temperature : String → String → FieldRow
temperature symbol words =
    record {
      label = record { symbol = codes symbol; unit = codes "deg C"; words = codes words; decimals = 2 };
      signed = true;
      names = [];
    }

abbrev pub code : String → String → List Words → FieldRow
code symbol limits names =
    record {
      label = record { symbol = codes symbol; unit = codes limits; words = []; decimals = 0 };
      signed = false;
      names = names;
    }

-- for a place that is none
abbrev pub no_field : FieldRow
no_field = plain "" "" "" 0

unfoldable pub field_rows : List FieldRow
field_rows =
    code "arrangement" "[1 to 7]" arrangements
    ∷ code "conductor" "[1 to 8]" conductors
    ∷ plain "f" "Hz" "frequency [10 to 65]" 2
    ∷ temperature "theta_c" "conductor [40 to 250]"
    ∷ temperature "theta_a" "ambient [-40 to 60]"
    ∷ plain "R0" "uohm/m" "conductor, d.c., at 20 deg C [5 to 20000]" 3
    ∷ plain "dc" "mm" "conductor diameter [1 to 100]" 2
    ∷ plain "s" "mm" "spacing of the axes [1 to 10000]" 2
    ∷ plain "ds" "mm" "diameter over conductor screen [1 to 200]" 2
    ∷ plain "Di" "mm" "diameter over insulation [1 to 300]" 2
    ∷ plain "U0" "V" "voltage to earth [0 to 300000]" 0
    ∷ plain "e" "" "relative permittivity [1 to 8]" 2
    ∷ plain "t" "" "loss factor [0.00001 to 0.1]" 5
    ∷ plain "d" "mm" "mean sheath diameter [1 to 500]" 2
    ∷ code "sheath" "[1 to 6]" metals
    ∷ plain "Rs0" "uohm/m" "sheath, at 20 deg C [1 to 20000]" 3
    ∷ temperature "theta_s" "sheath [-40 to 250]"
    ∷ code "armour" "[1 to 6]" metals
    ∷ plain "RA0" "uohm/m" "armour, a.c., at 20 deg C [1 to 20000]" 3
    ∷ temperature "theta_A" "armour [-40 to 250]"
    ∷ plain "c" "mm" "core axis to cable axis [1 to 500]" 2
    ∷ plain "dA" "mm" "mean armour diameter [1 to 500]" 2
    ∷ plain "T1" "K.m/W" "conductor to sheath [0.001 to 10]" 6
    ∷ plain "T2" "K.m/W" "sheath to armour [0 to 10]" 6
    ∷ plain "T3" "K.m/W" "outer covering [0 to 10]" 6
    ∷ plain "T4" "K.m/W" "surface to ambient [0.01 to 20]" 6
    ∷ plain "Ud" "V" "dielectric loss counts from [0 to 300000]" 0
    ∷ plain "rho" "" "dry to moist soil resistivity [1 to 5, 0 for none]" 3
    ∷ temperature "theta_x" "critical isotherm, if rho is not 0 [-40 to 250]"
    ∷ plain "Q" "W/m" "sun's heat taken up [0 to 200]" 3
    ∷ []

abbrev pub is_nil : List Words → Bool
is_nil [] = true
is_nil (w ∷ ws) = false

-- a field's label, where what a code stands for is its words
unfoldable pub label_at : FieldRow → ℕ → Label
label_at r n =
    record {
      symbol = r.label.symbol;
      unit = r.label.unit;
      words = cond (is_nil r.names) r.label.words (words_of r.names n);
      decimals = r.label.decimals;
    }

-- the field as a number
unfoldable pub number_at : FieldRow → ℕ → ℤ
number_at r n = cond r.signed (to_z w32 n) (pos n)

-- the digits of the column after the point
abbrev pub field_digits : ℕ
field_digits = 6

-- the row of a field that is n, with this mark
unfoldable pub field_row : List ℕ → FieldRow → ℕ → List ℕ
field_row mark r n = row mark field_digits (label_at r n) (number_at r n)
