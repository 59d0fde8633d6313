pub mod FewOf
pub mod Loaded
pub mod Outcomes
pub mod Stored
pub mod WithValues
