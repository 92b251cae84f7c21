-- docs/BOOK.md: the bytes of a book by a layout, its operations, and what is promised of it; the laws stand in Laws. Assumes nothing.
pub mod Bytes
pub mod Layout
pub mod Format
pub mod Trailer
pub mod Record
pub mod Start
pub mod Append
pub mod Read
pub mod Accept
pub mod Refusals
pub mod Build
pub mod Built
pub mod Appended
pub mod Book
