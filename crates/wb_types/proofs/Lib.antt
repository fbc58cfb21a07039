pub mod Blocks
pub mod Cutting
pub mod Counting
pub mod Levels
pub mod Lists
pub mod Truth
pub mod Versions
