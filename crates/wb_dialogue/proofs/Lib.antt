pub mod Pieces
pub mod Showing
pub mod Laid
pub mod FirstLine
pub mod Three
