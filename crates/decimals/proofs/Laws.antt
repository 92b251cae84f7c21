-- What follows from the definition of a number in decimal. Assumes nothing.
pub mod Decimal
pub mod Leading
pub mod Library
pub mod Parts
