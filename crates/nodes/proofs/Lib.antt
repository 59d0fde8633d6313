pub mod Stored
pub mod Touched
