pub mod Former
pub mod Evaluated
pub mod Changed
