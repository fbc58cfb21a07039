pub mod BitWords
pub mod Leasts
pub mod Summary
pub mod Deeper
