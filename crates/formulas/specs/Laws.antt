-- What follows from the definitions: closed values, ranges, what docs/RATING.md says of the logarithm and of the rating, and how
-- close each rounded stage lies to its exact one. Assumes nothing.
pub mod Bounds
pub mod Ranges
pub mod TableRule
pub mod Current
pub mod CloseRise
