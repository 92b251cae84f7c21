-- What follows from the definition of what is printed for a line. Assumes nothing.
pub mod Kept
