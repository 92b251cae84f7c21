-- The lines of a stream, and how many it may still have. Assumes nothing.
pub mod Lent
pub mod Lines
pub mod State
pub mod Stream
pub mod Laws
