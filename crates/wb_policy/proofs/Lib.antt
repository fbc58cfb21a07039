pub mod Searching
pub mod Uses
pub mod Laws
pub mod Lawful
pub mod Placed
pub mod Turns
pub mod Accesses
