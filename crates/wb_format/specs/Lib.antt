pub mod Bytes
pub mod NodeWords
pub mod Sizes
pub mod Letters
pub mod Layout
