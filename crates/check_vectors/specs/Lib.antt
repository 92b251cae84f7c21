-- What waits for what it must get, and how the comparisons are counted. Assumes nothing.
pub mod Counts
pub mod Waiting
