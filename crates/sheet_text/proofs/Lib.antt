-- Laws that the proofs of single functions share. Assumes nothing.
pub mod InOrder
pub mod Rows
pub mod Short
