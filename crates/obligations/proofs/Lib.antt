pub mod Held
pub mod Length
pub mod Stands
pub mod Walk
