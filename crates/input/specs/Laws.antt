-- What follows from the definitions of lines and of a stream that awaits bytes, by which the steps are shown to give each line once.
-- Assumes nothing.
pub mod Examples
pub mod Lines
pub mod Runs
pub mod Standing
pub mod Stream
