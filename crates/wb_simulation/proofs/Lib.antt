pub mod Steps
pub mod Orders
mod Telling
mod Cells
mod Among
pub mod Followed
pub mod Moving
pub mod Starting
pub mod Ending
mod Releasing
pub mod Leading
mod Committing
pub mod Commits
mod Counts
mod Told
mod Carrying
mod Copying
mod Migrating
mod Deciding
mod Cut
mod Ordering
pub mod Written
pub mod Unmapping
pub mod Migrations
pub mod Possible
pub mod BitLocations
pub mod Opening
pub mod Noted
pub mod Opened
