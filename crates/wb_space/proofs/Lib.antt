pub mod States
pub mod Noted
pub mod FreeListed
pub mod Suffices
pub mod Held
pub mod Differing
pub mod Changing
mod Freeing
mod Listing
