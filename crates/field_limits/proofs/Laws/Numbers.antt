-- What holds at each number of an arrangement holds at every number that is one. Assumes nothing.
use Rattle.std.specs.Prelude.{◌≡◌, true, ℕ, zero, suc, ◌≤◌, leb}
use Rattle.std.proofs.Common.{sym, ◌∙◌, arith, leb-true}
use Rattle.bools.proofs.Laws.Tests.{both}
use Rattle.rating.specs.Arrangements.{arrangement_of}
use Rattle.rating.proofs.Laws.Arrangements.{known_within}

from_1_to_7 : (k : ℕ) → (arrangement_of k).known ≡ true → (1 ≤ k) × (k ≤ 7)
from_1_to_7 k known =
    let tests = both (leb 1 k) (leb k 7) (sym (known_within k) ∙ known) in
    (leb-true 1 k tests.0, leb-true k 7 tests.1)

pub at_each :
    (P : ℕ → Type 0) → P 1 → P 2 → P 3 → P 4 → P 5 → P 6 → P 7 → (k : ℕ) → (arrangement_of k).known ≡ true → P k
at_each P one two three four five six seven zero known = absurd (omega (arith, (from_1_to_7 zero known).0))
at_each P one two three four five six seven (suc zero) known = one
at_each P one two three four five six seven (suc (suc zero)) known = two
at_each P one two three four five six seven (suc (suc (suc zero))) known = three
at_each P one two three four five six seven (suc (suc (suc (suc zero)))) known = four
at_each P one two three four five six seven (suc (suc (suc (suc (suc zero))))) known = five
at_each P one two three four five six seven (suc (suc (suc (suc (suc (suc zero)))))) known = six
at_each P one two three four five six seven (suc (suc (suc (suc (suc (suc (suc zero))))))) known = seven
at_each P one two three four five six seven (suc (suc (suc (suc (suc (suc (suc (suc k)))))))) known =
    absurd (omega (arith, (from_1_to_7 (suc (suc (suc (suc (suc (suc (suc (suc k)))))))) known).1))
