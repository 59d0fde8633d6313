pub mod Sorts
pub mod Uses
pub mod Walk
