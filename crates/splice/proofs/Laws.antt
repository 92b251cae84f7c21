-- What follows of a replaced part and of parts written one after another. Assumes nothing.
pub mod Splice
pub mod Put
pub mod Instances
