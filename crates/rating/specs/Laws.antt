-- Laws of the rating of a case: what its refusals leave, the range of each value, how close each arrangement's numbers lie to their exact
-- values, and demand 3 for a case. Assumes nothing.
pub mod Sound
pub mod Rise
pub mod Fit
pub mod Steps
pub mod Logarithms
