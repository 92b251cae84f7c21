-- The arrangements that refusal 1 lets pass are 1 to 7; and every arrangement is lawful, whichever number field 0 has. Assumes nothing.
use Rattle.std.specs.Prelude.{◌≡◌, refl, true, false, ℕ, zero, suc, ◌<◌, leb, eqb}
use Rattle.std.proofs.Common.{ap, ◌∙◌, arith, lit≤, le-leb, ne_eqb}
use Rattle.std.proofs.lemmas.Bool.{false≢true, lt-leb}
use Rattle.bools.proofs.Laws.Tests.{either}
use Rattle.rating.specs.Within.{within}
use Rattle.rating.specs.Arrangement.{Arrangement}
use Rattle.rating.specs.BothEnds.{both_ends}
use Rattle.rating.specs.OnePoint.{one_point}
use Rattle.rating.specs.SlType.{sl_type}
use Rattle.rating.specs.CommonSheath.{common_sheath}
use Rattle.rating.specs.DirectCurrent.{direct_current}
use Rattle.rating.specs.Arrangements.{no_arrangement, arrangement_of}
use Rattle.rating.proofs.Laws.Arrangement.{Lawful, none_lost}
use Rattle.rating.proofs.Laws.BothEnds.{both_ends_lawful}
use Rattle.rating.proofs.Laws.OnePoint.{one_point_lawful}
use Rattle.rating.proofs.Laws.SlType.{sl_type_lawful}
use Rattle.rating.proofs.Laws.CommonSheath.{common_sheath_lawful}
use Rattle.rating.proofs.Laws.DirectCurrent.{direct_current_lawful}

-- a number that is none of 1 to 7 picks none
pub other_is :
    (k : ℕ) → (k ≡ 1 → ⊥) → (k ≡ 2 → ⊥) → (k ≡ 3 → ⊥) → (k ≡ 4 → ⊥) → (k ≡ 5 → ⊥) → (k ≡ 6 → ⊥) → (k ≡ 7 → ⊥) →
    arrangement_of k ≡ no_arrangement
unfolding arrangement_of
other_is k not-1 not-2 not-3 not-4 not-5 not-6 not-7 =
    simp
    (ne_eqb k 1 not-1, ne_eqb k 2 not-2, ne_eqb k 3 not-3, ne_eqb k 4 not-4, ne_eqb k 5 not-5, ne_eqb k 6 not-6, ne_eqb k 7 not-7)

-- refusal 1 is given outside 1 to 7
pub known_within : (k : ℕ) → (arrangement_of k).known ≡ within 1 7 k
unfolding arrangement_of both_ends one_point sl_type common_sheath direct_current no_arrangement
known_within zero = refl
known_within (suc zero) = refl
known_within (suc (suc zero)) = refl
known_within (suc (suc (suc zero))) = refl
known_within (suc (suc (suc (suc zero)))) = refl
known_within (suc (suc (suc (suc (suc zero))))) = refl
known_within (suc (suc (suc (suc (suc (suc zero)))))) = refl
known_within (suc (suc (suc (suc (suc (suc (suc zero))))))) = refl
known_within (suc (suc (suc (suc (suc (suc (suc (suc k)))))))) =
    let n = suc (suc (suc (suc (suc (suc (suc (suc k))))))) in
    let other : (m : ℕ) → m < n → n ≡ m → ⊥ = λ m m<n e. omega (arith, e) in
    let none =
    other_is n (other 1 (omega arith)) (other 2 (omega arith)) (other 3 (omega arith)) (other 4 (omega arith)) (other 5 (omega arith))
    (other 6 (omega arith))
    (other 7 (omega arith))
    in
    let over : leb n 7 ≡ false = lt-leb n 7 (omega arith) in
    let under : leb 1 n ≡ true = le-leb 1 n (omega arith) in
    ap (λ a. a.known) none ∙ simp (over, under)

-- what is no arrangement has no losses, and nothing is asked of its n
no_arrangement_lawful : Lawful no_arrangement
unfolding no_arrangement
no_arrangement_lawful =
    record {
      reacts = λ reactive. absurd (false≢true reactive);
      eddies = λ tried. absurd (false≢true tried);
      apart = λ reactive placed. absurd (false≢true reactive);
      spaced = λ alternates fit. absurd (false≢true alternates);
      n = λ known. absurd (false≢true known);
      S = λ fit. lit≤ tt;
      W = λ fit. lit≤ tt;
      S_close = λ allowed fit. none_lost;
      W_close = λ allowed fit. none_lost;
    }

-- what holds of each arrangement holds of the one that a number picks
pub every :
    (P : Arrangement → Type 0) → P both_ends → P (one_point 1) → P (one_point 2) → P sl_type → P common_sheath → P direct_current →
    P no_arrangement →
    (k : ℕ) → P (arrangement_of k)
unfolding arrangement_of
every P both_ends one-1 one-2 sl common direct none k =
    either P (eqb k 1) both_ends
    (either P (eqb k 2) both_ends
    (either P (eqb k 3) one-1
    (either P (eqb k 4) one-2 (either P (eqb k 5) sl (either P (eqb k 6) common (either P (eqb k 7) direct none))))))

pub lawful : (k : ℕ) → Lawful (arrangement_of k)
lawful =
    every Lawful both_ends_lawful (one_point_lawful 1 (lit≤ tt)) (one_point_lawful 2 (lit≤ tt)) sl_type_lawful common_sheath_lawful
    direct_current_lawful
    no_arrangement_lawful
