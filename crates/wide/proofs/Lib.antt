pub mod Carried
pub mod LongDivision
pub mod Newton
pub mod Shift
