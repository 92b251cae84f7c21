-- What the outcome of a test says of its parts, and of an answer that is chosen by it. Every crate's refusals are such tests.
-- Assumes nothing.
use Rattle.std.specs.Prelude.{Bool, true, false, cond, ◌&&◌, ◌||◌, ◌≡◌, refl, ℕ}
use Rattle.std.proofs.lemmas.Bool.{false≢true}
use Rattle.std.proofs.Common.{true≢false, sym, ◌∙◌}

pub both : (a b : Bool) → a && b ≡ true → (a ≡ true) × (b ≡ true)
both true b e = (refl, e)
both false b e = absurd (false≢true e)

pub not_both : (a b : Bool) → a && b ≡ false → a ≡ true → b ≡ false
not_both true b e some = e
not_both false b e some = absurd (false≢true some)

pub neither : (a b : Bool) → a || b ≡ false → (a ≡ false) × (b ≡ false)
neither true b e = absurd (true≢false e)
neither false b e = (refl, e)

pub other_of : (a b : Bool) → a || b ≡ true → a ≡ false → b ≡ true
other_of true b e not-a = absurd (true≢false not-a)
other_of false b e not-a = e

-- what holds of a test in either outcome, given that outcome, holds of it
pub by_outcome : (P : Bool → Type 0) (t : Bool) → (t ≡ true → P true) → (t ≡ false → P false) → P t
by_outcome P true if-true if-false = if-true refl
by_outcome P false if-true if-false = if-false refl

-- what holds of each answer of a test, where it is chosen, holds of the one that is
pub either_by : {A : Type 0} (P : A → Type 0) (t : Bool) {a b : A} → (t ≡ true → P a) → (t ≡ false → P b) → P (cond t a b)
either_by P t {a} {b} = by_outcome (λ u. P (cond u a b)) t

-- what holds of both answers of a test holds of the one that is chosen
pub either : {A : Type 0} (P : A → Type 0) (t : Bool) {a b : A} → P a → P b → P (cond t a b)
either P true of-a of-b = of-a
either P false of-a of-b = of-b

-- and of two that one test chooses
pub either_both :
    {A B : Type 0} (P : A → B → Type 0) (t : Bool) {a b : A} {a' b' : B} → P a a' → P b b' → P (cond t a b) (cond t a' b')
either_both P true of-a of-b = of-a
either_both P false of-a of-b = of-b

-- no test has both outcomes
pub other_outcome : {A : Type 0} (t : Bool) → t ≡ false → t ≡ true → A
other_outcome t f e = absurd (false≢true (sym f ∙ e))

-- an answer by a chain of tests that is no refusal: the first test was passed, and the answer is what follows
pub passed :
    {A : Type 0} (number : A → ℕ) (given : Bool) (refusal rest : A) → (number refusal ≡ 0 → ⊥) → number (cond given refusal rest) ≡ 0 →
    (given ≡ false) × (cond given refusal rest ≡ rest)
passed number true refusal rest refuses e = absurd (refuses e)
passed number false refusal rest refuses e = (refl, refl)
