-- What the contracts inside this crate say of the tables. Assumes nothing.
pub mod Agree
