-- What a work sheet says, to the last byte. Assumes nothing.
pub mod Codes
pub mod FieldRows
pub mod NumberRows
pub mod Refusals
pub mod InOrder
pub mod Marks
pub mod Fields
pub mod Numbers
pub mod Sheet
pub mod Laws
