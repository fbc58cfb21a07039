pub mod Request
pub mod Answered
pub mod Played
pub mod Stopped
