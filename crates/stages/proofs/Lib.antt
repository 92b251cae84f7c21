pub mod Logs
pub mod Quotients
pub mod Series
pub mod Signed
