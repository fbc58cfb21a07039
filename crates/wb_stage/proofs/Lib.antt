pub mod Releasing
pub mod Readying
pub mod Leading
