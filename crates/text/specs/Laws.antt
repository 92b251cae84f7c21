-- What follows from the definitions of words, numbers, lines and gathering. Assumes nothing.
pub mod After
pub mod Case
pub mod Examples
pub mod Gather
pub mod Leading
pub mod Number
pub mod Pieces
pub mod RoundTrip
pub mod Runs
pub mod Words
