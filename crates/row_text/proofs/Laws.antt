-- Closed rows. Assumes nothing.
pub mod Instances
