-- What the program `rate` prints. Assumes nothing.
pub mod Answers
