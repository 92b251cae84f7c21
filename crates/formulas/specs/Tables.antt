-- docs/RATING.md, 'The fields of a case': the table of conductor codes and that of metals. A code above its limits has 0, and 0 has the
-- first entry; refusals 2 and 3 keep such a code from any stage. Assumes nothing.
use Rattle.std.specs.Prelude.{cond, List, [], ◌∷◌, ℕ, ◌-◌, leb, get_or}

-- Table 2 of the standard, amendment 2, with its note d, in thousandths. The codes: 1 copper round dried, 2 copper round not dried,
-- 3 copper segmental, 4 and 5 aluminium round as 1 and 2, 6 to 8 aluminium of 4, 5 and 6 segments.
abbrev pub ks_table : List ℕ
ks_table = 1000 ∷ 1000 ∷ 435 ∷ 1000 ∷ 1000 ∷ 280 ∷ 190 ∷ 120 ∷ []

abbrev pub kp_table : List ℕ
kp_table = 800 ∷ 1000 ∷ 370 ∷ 800 ∷ 1000 ∷ 370 ∷ 370 ∷ 370 ∷ []

-- Table 1 of the standard, in 10^-5 per K. The metals: 1 lead, 2 aluminium, 3 copper, 4 bronze, 5 stainless steel, 6 steel.
abbrev pub metal_table : List ℕ
metal_table = 400 ∷ 403 ∷ 393 ∷ 300 ∷ 0 ∷ 450 ∷ []

-- the entry of a code, which counts from 1
abbrev pub entry : List ℕ → ℕ → ℕ
entry table code = get_or table (code - 1) 0

-- ks and kp of a conductor code, and α of a metal
abbrev pub ks : ℕ → ℕ
ks code = entry ks_table code

abbrev pub kp : ℕ → ℕ
kp code = entry kp_table code

abbrev pub coefficient : ℕ → ℕ
coefficient metal = entry metal_table metal

-- the metal of a conductor: copper in codes 1 to 3, aluminium after
unfoldable pub conductor_metal : ℕ → ℕ
conductor_metal code = cond (leb code 3) 3 2
