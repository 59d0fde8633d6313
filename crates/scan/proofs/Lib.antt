pub mod Actions
pub mod Queries
pub mod Spans
pub mod Within
