pub mod Blocks
pub mod Indexes
pub mod Places
pub mod Bounds
pub mod Spaces
