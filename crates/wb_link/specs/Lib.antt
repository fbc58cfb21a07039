pub mod Tables
pub mod World
pub mod Clerk
pub mod Openings
pub mod Headline
pub mod Examples
