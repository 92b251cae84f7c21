-- What follows from the definitions of a book: writing and reading undo each other, what was appended reads back, an accepted book builds
-- again to the same bytes and can be appended to, demand 3 for each rated record of one, what a refusal leaves, and the bytes of
-- docs/BOOK.md. Assumes nothing.
pub mod Bytes
pub mod Lawful
pub mod Trailer
pub mod Mark
pub mod Record
pub mod Disagreeing
pub mod Accept
pub mod First
pub mod Refused
pub mod Built
pub mod Build
pub mod ReadBack
pub mod Cases
pub mod Rebuild
pub mod Appended
pub mod Margin
pub mod Answered
pub mod Demands
pub mod Judged
pub mod Literal
pub mod Instances
pub mod CommonSheath
pub mod Older
pub mod FurtherInputs
pub mod DirectCurrent
pub mod Named
