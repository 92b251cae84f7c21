-- What the program `keep` does to a book. Assumes nothing.
pub mod Keeping
