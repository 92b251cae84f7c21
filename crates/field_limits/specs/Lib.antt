-- The limits of the fields of a case, and which fields refusals 3 and 4 are about. Assumes nothing.
pub mod Limits
pub mod Marked
pub mod Table
