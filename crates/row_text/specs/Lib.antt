-- How a row of a work sheet is written. Assumes nothing.
pub mod Columns
pub mod Value
pub mod Row
pub mod Laws
