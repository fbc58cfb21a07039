pub mod Laws
pub mod Holding
pub mod Inside
pub mod Progress
