pub mod Selected
pub mod Steps
