-- The laws: theorems about the definitions of specs/. Assumes nothing.
pub mod Laws
