pub mod Slots
pub mod Headers
