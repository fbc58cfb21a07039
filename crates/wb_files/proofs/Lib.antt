pub mod Syncing
pub mod Telling
