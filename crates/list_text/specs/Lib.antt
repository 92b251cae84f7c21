-- The listing of a book. Assumes nothing.
pub mod Listing
