-- The rating of a case (docs/RATING.md): the values of the stages, what each arrangement adds, the refusals in their order, what `rate`
-- answers, and the exact rise. Laws has what is proved of them. Assumes nothing.
pub mod Within
pub mod Values
pub mod Chosen
pub mod Arrangement
pub mod BothEnds
pub mod OnePoint
pub mod SlType
pub mod CommonSheath
pub mod DirectCurrent
pub mod Arrangements
pub mod Current
pub mod Allowed
pub mod FieldRefusals
pub mod Stage10
pub mod StageRefusals
pub mod Refusals
pub mod Refusal
pub mod Kind
pub mod Rate
pub mod Exact
pub mod Laws
