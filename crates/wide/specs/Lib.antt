-- What the contracts of this crate say: the number that two limbs stand for, a shift, and a division's answer. What follows from them
-- stands under Laws. Assumes nothing.
pub mod Limbs
pub mod Shift
pub mod Split
pub mod Laws
