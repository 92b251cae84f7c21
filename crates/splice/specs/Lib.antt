-- A list with a part of it replaced, and a part written; the laws stand in Laws. Assumes nothing.
pub mod Splice
pub mod Put
