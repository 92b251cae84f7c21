-- The fields of a case by name (docs/RATING.md, 'The fields of a case'). Assumes nothing.
pub mod Fields
