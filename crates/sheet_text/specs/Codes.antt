-- What the codes of a case stand for, each at the place of its number (docs/SHEET.md, 'The fields'). Where there is no code 0, none stands
-- for anything there. Assumes nothing.
use Rattle.std.specs.Prelude.{List, [], ◌∷◌, ℕ, codes, get_or}

abbrev pub Words : Type 0
Words = List ℕ

abbrev pub arrangements : List Words
arrangements =
    []
    ∷ codes "single-core, trefoil, bonded at both ends"
    ∷ codes "single-core, flat, transposed, bonded at both ends"
    ∷ codes "single-core, trefoil, bonded at one point"
    ∷ codes "single-core, flat, bonded at one point, centre cable"
    ∷ codes "three-core SL type, steel wire armour"
    ∷ codes "three-core, common sheath"
    ∷ codes "single-core, direct current"
    ∷ []

abbrev pub conductors : List Words
conductors =
    []
    ∷ codes "copper, round, dried"
    ∷ codes "copper, round, not dried"
    ∷ codes "copper, segmental"
    ∷ codes "aluminium, round, dried"
    ∷ codes "aluminium, round, not dried"
    ∷ codes "aluminium, 4 segments"
    ∷ codes "aluminium, 5 segments"
    ∷ codes "aluminium, 6 segments"
    ∷ []

abbrev pub metals : List Words
metals =
    codes "none"
    ∷ codes "lead"
    ∷ codes "aluminium"
    ∷ codes "copper"
    ∷ codes "bronze"
    ∷ codes "stainless steel"
    ∷ codes "steel"
    ∷ []

-- what a code stands for, or nothing where it is none of them
unfoldable pub words_of : List Words → ℕ → Words
words_of words code = get_or words code []
