pub mod Counts
pub mod Find
pub mod Groups
pub mod Slots
pub mod Walk
pub mod Kept
