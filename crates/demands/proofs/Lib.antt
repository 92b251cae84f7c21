-- The demands as theorems, and that their premises are met. Assumes nothing.
pub mod Demands
pub mod Laws
