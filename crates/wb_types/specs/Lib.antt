pub mod Extents
pub mod Limits
pub mod Refusals
pub mod Versions
