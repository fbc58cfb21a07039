pub mod Kept
pub mod Calls
pub mod Stored
