pub mod Volume
pub mod Acts
pub mod Conditions
pub mod Promises
pub mod Devices
pub mod Examples
