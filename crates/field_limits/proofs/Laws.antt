-- No place behind the last field is marked, and the fields that are marked are those that refusals 3 and 4 are about. Assumes nothing.
pub mod Behind
pub mod Lists
pub mod Numbers
pub mod Limit
pub mod Stray
pub mod First
pub mod Instances
