-- What the functions of this crate ask of their arguments. Assumes nothing.
pub mod Ends
pub mod Ranges
