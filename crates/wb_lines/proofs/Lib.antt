pub mod Colons
pub mod Names
