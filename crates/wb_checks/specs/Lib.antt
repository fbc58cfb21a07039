pub mod Fronts
pub mod Slots
pub mod Samples
pub mod Thresholds
