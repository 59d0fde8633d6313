pub mod Number
pub mod Reading
