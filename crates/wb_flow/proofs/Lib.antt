pub mod Commits
pub mod Opening
pub mod Requests
