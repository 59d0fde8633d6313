pub mod Full
pub mod TagLimits
pub mod Twice
