pub mod Digits
pub mod Parts
pub mod Tables
pub mod Messages
