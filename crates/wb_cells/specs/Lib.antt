pub mod Flat
pub mod Fractions
pub mod Views
pub mod Moves
pub mod Crews
pub mod Passes
