pub mod Behind
pub mod Reading
pub mod Moving
