-- Numbers in decimal, and laws about them. Assumes nothing.
pub mod Decimal
pub mod Laws
