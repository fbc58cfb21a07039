pub mod Endings
pub mod Lending
pub mod Controls
