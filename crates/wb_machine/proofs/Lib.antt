pub mod Commits
pub mod Members
pub mod Nodes
pub mod Openings
pub mod Standing
pub mod Reaching
pub mod Served
pub mod Possible
pub mod Doing
pub mod Shown
pub mod Sizes
pub mod Wherever
pub mod Answering
pub mod Seals
pub mod Landing
pub mod Flags
mod Orders
mod Stepped
mod Kept
mod Mapped
pub mod Suspends
pub mod Performed
