-- What the contracts of this crate say beyond the definitions of `formulas`. Assumes nothing.
pub mod Reduced
pub mod Laws
