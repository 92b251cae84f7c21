-- The stages of docs/RATING.md as definitions, one file for each and in its order. Each stage stands twice: rounded, as that page
-- writes it, and exact, in fractions, under the same name with a star. The letters that a comment calls the paper's are those of that
-- page. What follows from the definitions stands under Laws. Assumes nothing.
pub mod Tables
pub mod Constants
pub mod Resistance
pub mod Reactance
pub mod Skin
pub mod Proximity
pub mod Logarithm
pub mod Spacing
pub mod Sheath
pub mod CommonSheath
pub mod Armour
pub mod Soil
pub mod Sun
pub mod Dielectric
pub mod Rating
pub mod Refusals
pub mod Laws
