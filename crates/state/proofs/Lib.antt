pub mod Laid
pub mod Right
