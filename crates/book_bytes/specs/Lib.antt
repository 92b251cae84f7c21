pub mod Refusal
pub mod Layout
pub mod Answers
pub mod Record
