pub mod Slots
pub mod Branches
pub mod Edits
pub mod Looks
pub mod Settled
pub mod Filling
pub mod Copied
pub mod Known
