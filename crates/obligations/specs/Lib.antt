pub mod Held
pub mod Output
