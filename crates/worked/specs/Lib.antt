pub mod Worked
pub mod Run
