pub mod Query
pub mod Span
pub mod Spans
