pub mod Ranges
pub mod Answering
