-- What an image writes.
pub mod Changes
pub mod Imaging
pub mod PlanSteps
pub mod PlanWords
pub mod Planned
pub mod WordSpelling
