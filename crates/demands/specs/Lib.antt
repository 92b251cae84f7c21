-- The three demands, and instances of them. Assumes nothing.
pub mod Demands
