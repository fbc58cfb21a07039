pub mod Commits
pub mod Phases
