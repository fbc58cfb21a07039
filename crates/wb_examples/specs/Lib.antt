pub mod Possible
pub mod Excluded
