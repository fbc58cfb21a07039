pub mod Readying
pub mod Committing
pub mod Tasks
pub mod Tries
pub mod Parts
pub mod Trying
pub mod Carried
pub mod Syncing
pub mod Knowing
pub mod Written
pub mod Sending
pub mod Turns
mod Hinting
mod Leading
mod Opened
mod Stopping
mod Refusing
pub mod Asking
pub mod Suspends
pub mod Displaces
pub mod Invalidates
mod Measured
mod Seals
mod Desking
