pub mod Answers
pub mod Evaluated
pub mod Changed
pub mod Examples
