pub mod Members
pub mod Least
pub mod Chosen
mod Cleared
mod Onward
