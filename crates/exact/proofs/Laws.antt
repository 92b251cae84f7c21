-- What follows from the definitions of this crate. Assumes nothing.
pub mod Rounding
pub mod Fraction
pub mod Error
pub mod RoundingError
pub mod Root
pub mod Instances
