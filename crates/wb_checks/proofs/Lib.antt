pub mod Standing
pub mod Holding
pub mod Drawing
pub mod Walking
pub mod Fronts
pub mod Pieces
