-- What stores leave in a slice of one place, and the answer of an operation that writes. Assumes nothing.
use Rattle.std.proofs.Common.{Err, List, Ok, Result, [], arith, eq-eqb, length, refl, set, sym, ℕ, ◌∙◌, ◌∷◌, ◌≡◌}
use Rattle.book_bytes.specs.declared.refusal.Refusal.{Refusal}
use Rattle.book_laws.specs.Start.{Written, unwritten}
use Rattle.book.specs.Answers.{written_of}
use Rattle.sheafdawn.specs.Calls.{book_call, written_call}

pub one_place : (out : List ℕ) (n : ℕ) → length out ≡ 1 → set out 0 n ≡ n ∷ []
one_place [] n is_1 = absurd (omega arith)
one_place (y ∷ []) n is_1 = refl
one_place (y ∷ z ∷ ys) n is_1 = absurd (omega arith)

-- the number and the used length are the answer's, whatever the bytes are
answered : (r : Result ℕ Refusal) (bytes : List ℕ) →
    book_call (written_of r []).number bytes ((written_of r []).used ∷ [])
    ≡ book_call (written_of r bytes).number (written_of r bytes).bytes ((written_of r bytes).used ∷ [])
unfolding unwritten
answered (Ok used) bytes = refl
answered (Err refusal) bytes = refl

pub written :
    (b out bytes : List ℕ) {w : Written} {n : ℕ} {m : List ℕ} (r : Result ℕ Refusal) → length out ≡ 1 → n ≡ (written_of r []).number →
    m ≡ (written_of r []).used ∷ [] → written_of r bytes ≡ w → book_call n bytes m ≡ written_call b out w
unfolding written_call
written b out bytes r is_1 number_is used_is is =
    rw (number_is, used_is) (answered r bytes ∙ rw is (sym (simp (eq-eqb _ _ is_1))))
