pub mod Line
pub mod Fill
pub mod FirstLine
pub mod Exit
pub mod Leading
pub mod Joining
pub mod Queues
pub mod Shown
