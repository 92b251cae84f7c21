-- The first number that passes a test: of the records of a book, the earliest of a kind. Assumes nothing.
use Rattle.std.specs.Prelude.{Bool, cond, ℕ, zero, suc}

-- the first i below n that passes, or n where none does
unfoldable pub earliest : (ℕ → Bool) → ℕ → ℕ
earliest passes zero = zero
earliest passes (suc n) = cond (passes zero) zero (suc (earliest (λ i. passes (suc i)) n))
