pub mod Named
pub mod Orders
pub mod Fields
