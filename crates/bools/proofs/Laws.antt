-- What a test's outcome says of its parts, what an answer says of the refusals that were tried, and which number is the first that passes a
-- test. Assumes nothing.
pub mod Tests
pub mod First
pub mod Earliest
