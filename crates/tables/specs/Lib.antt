-- The definitions of these tables are those of `formulas`; here stands what the contracts inside this crate say. Assumes nothing.
pub mod Laws
