-- What a rating implies of the losses and the temperatures in a cable, as whole numbers, for a person to read. Assumes nothing.
pub mod Nearest
pub mod Implied
