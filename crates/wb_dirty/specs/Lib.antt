pub mod Reading
pub mod Loading
pub mod Planning
pub mod ReadBack
pub mod ImageReading
pub mod ImageLoading
