pub mod Judged
pub mod Own
pub mod Refused
pub mod SheathReactance
pub mod Laws
