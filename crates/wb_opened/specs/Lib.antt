pub mod Deeds
pub mod Inside
pub mod Looks
pub mod Refused
pub mod Tables
pub mod Unserved
