pub mod Faults
pub mod Stored
pub mod Steps
pub mod Rows
