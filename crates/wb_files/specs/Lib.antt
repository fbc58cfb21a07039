pub mod Events
pub mod Ledgers
pub mod Syncs
