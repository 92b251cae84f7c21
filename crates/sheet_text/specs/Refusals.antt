-- The refusals in the order in which they are tried, with their words and their rules (docs/SHEET.md, 'A refused case'). Assumes nothing.
use Prim.Native.String.{String}
use Rattle.std.specs.Prelude.{cond, List, [], ◌∷◌, ◌++◌, ℕ, codes, eqb}
use Rattle.decimals.specs.Decimal.{decimal}

pub record RefusalRow : Type 0 where
  pub number : ℕ
  pub word : List ℕ
  pub rule : List ℕ

abbrev pub refusal : ℕ → String → String → RefusalRow
refusal number word rule = record { number = number; word = codes word; rule = codes rule }

unfoldable pub refusal_rows : List RefusalRow
refusal_rows =
    refusal 1 "arrangement" "The arrangement must be one of 1 to 7."
    ∷ refusal 2 "conductor" "The conductor's code must be one of 1 to 8."
    ∷ refusal 3 "limit" "A field marked > is outside its limits, which stand in brackets."
    ∷ refusal 4 "stray" "A field marked > must be 0: the arrangement does not have it, or, of theta_x, rho is 0."
    ∷ record {
      number = 5;
      word = codes "geometry";
      rule =
          codes "It must be that dc <= ds and 1.05 ds <= Di;"
          ++ codes " also Di <= d in arrangements 1 to 6, d <= s in 1 to 5, 2 c <= dA in 5, dc <= s and 2 c <= d in 6.";
    }
    ∷ refusal 6 "heat" "The conductor must be 5 K or more above the ambient, and neither sheath nor armour above it."
    ∷ refusal 31 "isotherm" "Where rho is not 0 it must be that theta_a <= theta_x <= theta_c."
    ∷ refusal 32 "sun" "A cable in soil that dries out is not in the sun: rho or Q must be 0."
    ∷ refusal 7 "metal" "The sheath must be lead in arrangements 3, 4 and 5, and the armour steel in 5."
    ∷ refusal 33 "d.c. voltage" "In arrangement 7, direct current, U0 must be at most 5000 V."
    ∷ refusal 8 "skin" "The skin and proximity formulas end where 8 pi f k / (10^7 R') is 7.84, for k = ks and kp."
    ∷ refusal 9 "eddy" "In arrangements 3 and 4 the eddy formula ends where Rs is 5 B, with B = 4 pi f / 10^7."
    ∷ refusal 10 "dielectric" "The dielectric loss and the sun together take over nine tenths of the permitted rise."
    ∷ refusal 11 "current" "The rating would be over 5000 A."
    ∷ []

-- the one with a number; one without words, where no refusal has it
unfoldable pub among : List RefusalRow → ℕ → RefusalRow
among [] n = refusal n "" ""
among (r ∷ rs) n = cond (eqb r.number n) r (among rs n)

unfoldable pub refusal_of : ℕ → RefusalRow
refusal_of n = among refusal_rows n

-- the number and the word, and the rule in a line of its own
unfoldable pub refusal_text : ℕ → List ℕ
refusal_text n =
    codes "REFUSED  " ++ decimal n ++ codes " " ++ (refusal_of n).word ++ codes "\n  " ++ (refusal_of n).rule ++ codes "\n"
