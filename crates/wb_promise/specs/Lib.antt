pub mod States
pub mod Happenings
pub mod Effects
pub mod Clerk
pub mod Headline
pub mod Latest
pub mod Sealed
