pub mod Equality
pub mod Images
pub mod Nodes
pub mod Reading
pub mod Stored
pub mod Branching
