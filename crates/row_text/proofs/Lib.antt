-- Laws that the proofs of single functions share. Assumes nothing.
pub mod Digits
pub mod Laws
