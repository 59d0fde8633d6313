pub mod Completed
pub mod Updated
