-- What the program `sheet` prints for a line. Assumes nothing.
pub mod Heading
pub mod Laws
