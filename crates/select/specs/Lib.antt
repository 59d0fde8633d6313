pub mod Selection
pub mod Sought
pub mod Each
