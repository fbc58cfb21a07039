pub mod Comparing
pub mod Counted
pub mod Ending
