pub mod Inside
pub mod Looks
pub mod Ranging
