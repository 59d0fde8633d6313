pub mod Later
pub mod Parts
pub mod Steps
