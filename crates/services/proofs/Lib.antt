pub mod Found
pub mod Slots
