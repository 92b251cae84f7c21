-- The rows of the numbers of a rated case, in their order, and the arrangements that have them (docs/SHEET.md, 'A rated case').
-- Assumes nothing.
use Prim.Native.String.{String}
use Rattle.std.specs.Prelude.{Bool, true, ◌&&◌, ◌||◌, List, [], ◌∷◌, ℕ, eqb, leb, codes}
use Rattle.row_text.specs.Row.{Label}
use Rattle.sheet_text.specs.declared.has.Has.{Has}
use Rattle.sheet_text.specs.declared.has.Has.TheVariants.{All, Alternating, Reactive, Armoured}

-- the arrangements with a row: all; those whose current alternates; those whose sheath loss goes by X; and that with armour
unfoldable pub has : Has → ℕ → Bool
has All a = true
has Alternating a = leb 1 a && leb a 6
has Reactive a = eqb a 1 || eqb a 2 || eqb a 5
has Armoured a = eqb a 5

pub record NumberRow : Type 0 where
  pub label : Label
  pub having : Has

abbrev pub labelled : String → String → String → ℕ → Label
labelled symbol unit words decimals =
    record { symbol = codes symbol; unit = codes unit; words = codes words; decimals = decimals }

abbrev pub number : String → String → String → ℕ → Has → NumberRow
number symbol unit words decimals having = record { label = labelled symbol unit words decimals; having = having }

-- for a place that is none
abbrev pub no_number : NumberRow
no_number = number "" "" "" 0 All

unfoldable pub sheet_rows : List NumberRow
sheet_rows =
    number "R'" "uohm/m" "conductor, d.c., at theta_c" 10 All
    ∷ number "Rs" "uohm/m" "sheath, at theta_s" 10 Alternating
    ∷ number "RA" "uohm/m" "armour, a.c., at theta_A" 10 Armoured
    ∷ number "B" "uohm/m" "4 pi f / 10^7" 10 Alternating
    ∷ number "ys" "" "skin effect factor" 12 Alternating
    ∷ number "yp" "" "proximity effect factor" 12 Alternating
    ∷ number "R" "uohm/m" "conductor, effective, at theta_c" 10 All
    ∷ number "X" "uohm/m" "sheath reactance" 10 Reactive
    ∷ number "S" "uohm/m" "sheath loss / I^2" 10 Alternating
    ∷ number "W" "uohm/m" "armour loss / I^2" 10 Armoured
    ∷ number "Wd" "W/m" "dielectric loss of a core" 12 Alternating
    ∷ number "dd" "K" "rise by the dielectric loss" 9 Alternating
    ∷ number "E" "K/A^2" "rise by the current / I^2" 16 All
    ∷ []

-- the factors and losses at the rating
unfoldable pub loss_rows : List NumberRow
loss_rows =
    number "lambda1" "" "sheath loss factor, S / R" 6 Alternating
    ∷ number "lambda2" "" "armour loss factor, W / R" 6 Armoured
    ∷ number "Pc" "W/m" "conductor loss of a core" 6 All
    ∷ number "Ps" "W/m" "sheath loss of a core" 6 Alternating
    ∷ number "PA" "W/m" "armour loss of a core" 6 Armoured
    ∷ number "Pd" "W/m" "dielectric loss of a core" 6 Alternating
    ∷ []
