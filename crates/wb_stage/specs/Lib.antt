pub mod Asking
pub mod Stages
pub mod Jobs
pub mod Seen
pub mod Sharing
