pub mod Sizes
pub mod Places
pub mod Frequencies
pub mod Packed
pub mod Exact
pub mod Alone
