-- Exact arithmetic that no built-in type has: rounding to whole numbers, fractions, their errors, and the integer root. The
-- definitions stand here, and what follows from them under Laws. Assumes nothing.
pub mod Rounding
pub mod Fraction
pub mod Trillion
pub mod Error
pub mod Root
