-- What is read of a line where it stands in a chunk. Assumes nothing.
pub mod NumberAt
pub mod Plain
pub mod Standing
pub mod Laws
