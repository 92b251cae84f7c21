-- Refusals in their order, the first number that passes a test, and what the outcome of a test says of its parts. Assumes nothing.
pub mod First
pub mod Earliest
