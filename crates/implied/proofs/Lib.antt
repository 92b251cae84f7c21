-- The laws of the definitions of specs/, and what the proofs of functions share. Assumes nothing.
pub mod Laws
pub mod Sizes
pub mod CoreCount
pub mod Signed
