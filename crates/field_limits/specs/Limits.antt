-- docs/RATING.md, 'The fields of a case': the limits of every field, and the arrangements that have it, in a row each. Assumes nothing.
use Rattle.std.specs.Prelude.{Bool, true, false, List, [], ◌∷◌, ℕ, get_or, ℤ, pos, neg_ℤ}

pub record Limits : Type 0 where
  -- the limits, which are included
  pub low : ℤ
  pub high : ℤ
  -- whether the word is in two's complement
  pub signed : Bool
  -- the arrangements in which the field has these limits; in every other it is zero
  pub arrangements : List ℕ

abbrev pub all : List ℕ
all = 1 ∷ 2 ∷ 3 ∷ 4 ∷ 5 ∷ 6 ∷ 7 ∷ []

-- those with alternating current
abbrev pub alternating : List ℕ
alternating = 1 ∷ 2 ∷ 3 ∷ 4 ∷ 5 ∷ 6 ∷ []

-- that with armour
abbrev pub armoured : List ℕ
armoured = 5 ∷ []

-- those whose cores lie in one cable
abbrev pub three_cores : List ℕ
three_cores = 5 ∷ 6 ∷ []

abbrev pub plain : ℕ → ℕ → List ℕ → Limits
plain low high arrangements = record { low = pos low; high = pos high; signed = false; arrangements = arrangements }

abbrev pub temperature : ℤ → ℕ → List ℕ → Limits
temperature low high arrangements = record { low = low; high = pos high; signed = true; arrangements = arrangements }

-- -40 °C in hundredths
abbrev pub cold : ℤ
cold = neg_ℤ (pos 4000)

-- fields 0 to 29, in the order of a case
abbrev pub rows : List Limits
rows =
    -- the arrangement, the conductor's code, f, θc and θa
    plain 1 7 all
    ∷ plain 1 8 all
    ∷ plain 1000 6500 alternating
    ∷ temperature (pos 4000) 25000 all
    ∷ temperature cold 6000 all
    -- R0, dc, s, ds, Di and U0
    ∷ plain 5000 20000000 all
    ∷ plain 100 10000 all
    ∷ plain 100 1000000 alternating
    ∷ plain 100 20000 all
    ∷ plain 100 30000 all
    ∷ plain 0 300000 all
    -- e and t
    ∷ plain 100 800 alternating
    ∷ plain 1 10000 alternating
    -- the sheath: d, its metal, Rs0 and θs
    ∷ plain 100 50000 alternating
    ∷ plain 1 6 alternating
    ∷ plain 1000 20000000 alternating
    ∷ temperature cold 25000 alternating
    -- the armour: its metal, RA0 and θA; c; and dA
    ∷ plain 1 6 armoured
    ∷ plain 1000 20000000 armoured
    ∷ temperature cold 25000 armoured
    ∷ plain 100 50000 three_cores
    ∷ plain 100 50000 armoured
    -- T1 to T4
    ∷ plain 1000 10000000 all
    ∷ plain 0 10000000 all
    ∷ plain 0 10000000 all
    ∷ plain 10000 20000000 all
    -- Ud, ρ, θx and Q
    ∷ plain 0 300000 all
    ∷ plain 1000 5000 all
    ∷ temperature cold 25000 all
    ∷ plain 0 200000 all
    ∷ []

-- the row of a field; a place behind the last belongs to no arrangement
unfoldable pub row : ℕ → Limits
row i = get_or rows i (plain 0 0 [])
