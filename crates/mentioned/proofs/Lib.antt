pub mod Actions
pub mod Forms
pub mod Mentioned
