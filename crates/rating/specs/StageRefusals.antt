-- docs/RATING.md, 'The refusals': those that look at the stages, 8 to 11, each as a test that refuses a case; and their order. Assumes
-- nothing.
use Rattle.std.specs.Prelude.{Bool, ◌&&◌, List, [], ◌∷◌, ℕ}
use Rattle.bools.specs.First.{Refusal}
use Rattle.formulas.specs.Refusals as Test
use Rattle.rating.specs.Values.{Rs, B, zs, zp, permitted_of}
use Rattle.rating.specs.Arrangements.{own}
use Rattle.rating.specs.Stage10.{d0, current_of}

-- 8, which is not tried with direct current
abbrev pub skin_refused : List ℕ → Bool
skin_refused x = (own x).alternates && Test.skin_refused (zs x) (zp x)

-- 9, where the arrangement has it tried
abbrev pub eddy_refused : List ℕ → Bool
eddy_refused x = (own x).eddies && Test.eddy_refused (B x) (Rs x)

-- 10
abbrev pub dielectric_refused : List ℕ → Bool
dielectric_refused x = Test.dielectric_refused (d0 x) (permitted_of x)

-- 11
abbrev pub current_refused : List ℕ → Bool
current_refused x = Test.current_refused (current_of x)

-- in the order in which they are tried
unfoldable pub stage_refusals : List ℕ → List Refusal
stage_refusals x =
    record { number = 8; given = skin_refused x }
    ∷ record { number = 9; given = eddy_refused x }
    ∷ record { number = 10; given = dielectric_refused x }
    ∷ record { number = 11; given = current_refused x }
    ∷ []
