pub mod Moves
pub mod Hands
pub mod Requests
pub mod Ports
pub mod Straight
pub mod Kinds
