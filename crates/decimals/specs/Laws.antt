-- What theorems of this crate speak of besides a number in decimal. Assumes nothing.
pub mod Leading
