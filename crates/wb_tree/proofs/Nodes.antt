-- The nodes of a tree: which exist, in which order they come, how many they are, where they stand.
pub mod Counting
pub mod Fronts
pub mod Knowing
pub mod Listed
pub mod Listing
pub mod Names
pub mod Parts
pub mod Placing
pub mod Alike
pub mod Above
pub mod Few
