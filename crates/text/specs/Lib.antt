-- What a line of text says, and how lines are gathered from chunks; laws of both. Assumes nothing.
pub mod Bytes
pub mod Gather
pub mod Leading
pub mod Line
pub mod Number
pub mod Words
pub mod Laws
