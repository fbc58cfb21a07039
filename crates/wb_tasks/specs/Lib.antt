pub mod Tables
pub mod Plan
pub mod Run
pub mod Length
pub mod Causes
pub mod Phases
pub mod Ready
pub mod Points
