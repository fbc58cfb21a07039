pub mod Device
pub mod Extents
pub mod Memory
pub mod Crash
pub mod Failing
pub mod Stored
pub mod Crashes
pub mod Faltering
