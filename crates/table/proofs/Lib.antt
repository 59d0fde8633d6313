pub mod Counts
pub mod Sections
