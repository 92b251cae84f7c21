-- What is proved of the definitions of specs/. Assumes nothing.
pub mod Laws
