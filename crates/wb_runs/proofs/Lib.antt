pub mod Sizes
pub mod Imaged
pub mod Images
pub mod Underway
pub mod Metadata
pub mod Spelling
pub mod Desks
pub mod Stepping
pub mod Faltering
pub mod Formatted
pub mod MetadataRuns
pub mod Lists
pub mod Located
pub mod Extents
pub mod Ruling
pub mod Suiting
pub mod Sealing
pub mod Ordering
pub mod Given
pub mod Owning
pub mod Using
pub mod Plans
pub mod Modes
mod Refusing
pub mod Covering
pub mod SoFar
pub mod Opening
pub mod Passing
pub mod Claims
pub mod Linking
pub mod LinkedRuns
pub mod Spelled
pub mod Readings
pub mod Rooted
mod Bounds
pub mod InsideRuns
mod Points
mod Going
mod Progressing
mod Giving
mod Applying
pub mod Making
mod Free
