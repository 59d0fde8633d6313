pub mod Bound
pub mod Marked
