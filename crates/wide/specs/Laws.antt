-- What follows from the definitions of this crate, and what its functions ask of their arguments. Assumes nothing.
pub mod Split
pub mod Ranges
