pub mod Words
pub mod Comments
pub mod Numbers
pub mod Sectors
pub mod Policies
pub mod Table
pub mod Status
pub mod Messages
