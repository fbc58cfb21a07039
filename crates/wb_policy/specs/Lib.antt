pub mod Law
pub mod Situations
pub mod Recency
pub mod Placing
pub mod TinyLfu
pub mod Cleaner
