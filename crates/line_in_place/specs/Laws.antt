-- What follows from the definitions of a line in a chunk, by which its readers are shown to read it. Assumes nothing.
pub mod Instances
pub mod NumberAt
pub mod Row
pub mod Standing
