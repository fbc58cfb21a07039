pub mod SharedWords
pub mod Cards
pub mod Looks
pub mod Rule
pub mod Moments
pub mod Grips
pub mod Effects
pub mod Ready
