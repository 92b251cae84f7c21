-- That the premises of the demands are met. Assumes nothing.
pub mod Instances
