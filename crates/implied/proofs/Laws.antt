-- What is nearest, and how large a loss and a temperature are. Assumes nothing.
pub mod Nearest
pub mod Instances
